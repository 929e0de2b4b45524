use Rattle.std.proofs.Common.{inl, inr}
use Rattle.esto_input_laws.proofs.GraphLemmas.{ranks_or_cycle}
use Rattle.esto_input_laws.proofs.catalogue.graphs_have_ranks_or_a_cycle.Goals as goal

pub returns : goal.returns
returns c = λ rules count within. elim (ranks_or_cycle rules count within) [ inl (ranks, are, acyclic) ↦ inl (ranks, are) | inr found ↦ inr found ]
