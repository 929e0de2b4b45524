use Rattle.std.proofs.Common.{◌≡◌, ℕ, List}
use Rattle.esto_term.proofs.ListLemmas.{HoldsBelow}
use Rattle.esto_mapping.proofs.columns.has_text.Given as goal

-- the text is none of those so far
abbrev pub invariant-texts : goal.invariant-texts
invariant-texts l = HoldsBelow (λ _ (other : List ℕ). other ≡ l.text → ⊥) l.texts l.other-index
