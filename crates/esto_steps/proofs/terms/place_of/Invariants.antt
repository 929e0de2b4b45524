use Rattle.std.proofs.Common.{◌≡◌}
use Rattle.esto_term.proofs.ListLemmas.{HoldsBelow}
use Rattle.esto_steps.proofs.terms.place_of.Given as goal

abbrev pub invariant-terms : goal.invariant-terms
invariant-terms l = HoldsBelow (λ _ other. other ≡ l.term → ⊥) l.terms l.place
