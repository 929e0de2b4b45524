use Rattle.esto_term.specs.declared.term.Term.{Term}
use Rattle.std.proofs.Common.{◌≡◌}
use Rattle.esto_term.proofs.ListLemmas.{HoldsBelow}
use Rattle.esto_known.proofs.kept.first_place.Given as goal

-- none of the places so far is that of the term
abbrev pub invariant-places : goal.invariant-places
invariant-places l = HoldsBelow (λ _ (other : Term). l.term ≡ other → ⊥) l.from l.place
