use Rattle.std.proofs.Common.{◌≢◌}
use Rattle.esto_term.specs.declared.term.Term.{Term}
use Rattle.esto_semantics.specs.declared.fact.Fact.{Fact}
use Rattle.esto_term.proofs.ListLemmas.{HoldsBelow}
use Rattle.esto_condchase.proofs.news.has_relation.Given as goal

-- none of the atoms so far has the relation
abbrev pub invariant-atoms : goal.invariant-atoms
invariant-atoms l = HoldsBelow (λ _ (atom : Fact Term). atom.relation ≢ l.relation) l.body l.atom-index
