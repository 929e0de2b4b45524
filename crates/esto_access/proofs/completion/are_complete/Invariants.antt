use Rattle.esto_term.proofs.ListLemmas.{HoldsBelow}
use Rattle.esto_access.specs.Completion.{IsCompletedIn}
use Rattle.esto_access.proofs.completion.are_complete.Given as goal

-- the sets so far are complete
abbrev pub invariant-sets : goal.invariant-sets
invariant-sets l = HoldsBelow (λ _ low. IsCompletedIn l.supplies low low) l.products.sets l.at
