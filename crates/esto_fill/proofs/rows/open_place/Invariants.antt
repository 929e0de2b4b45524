use Rattle.esto_term.specs.Kinds.{IsConstant}
use Rattle.esto_term.proofs.ListLemmas.{HoldsBelow}
use Rattle.esto_fill.proofs.rows.open_place.Given as goal

-- the terms so far are constants
abbrev pub invariant-terms : goal.invariant-terms
invariant-terms l = HoldsBelow (λ _ term. IsConstant term) l.row l.place
