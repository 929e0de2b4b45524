use Rattle.esto_constraint.specs.Relations.{IsEdge}
use Rattle.esto_constraint.proofs.CycleLemmas.{acyclic, one_list_of_ranks, one_least_cycle}
use Rattle.esto_acyclic.proofs.relations.judgements_are_exact.Goals as goal

pub returns-clause-acyclic : goal.returns-clause-acyclic
returns-clause-acyclic c rules = acyclic (IsEdge rules)

pub returns-clause-ranks : goal.returns-clause-ranks
returns-clause-ranks c rules = one_list_of_ranks (IsEdge rules)

pub returns-clause-cycles : goal.returns-clause-cycles
returns-clause-cycles c rules = one_least_cycle (IsEdge rules)
