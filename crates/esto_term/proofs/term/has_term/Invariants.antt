use Rattle.std.proofs.Common.{◌≡◌}
use Rattle.esto_term.proofs.ListLemmas.{HoldsBelow}
use Rattle.esto_term.proofs.term.has_term.Given as goal

-- none of the terms so far is this one
abbrev pub invariant-terms : goal.invariant-terms
invariant-terms l = HoldsBelow (λ _ other. other ≡ l.term → ⊥) l.terms l.other-index
