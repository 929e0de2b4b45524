use Rattle.std.proofs.Common.{◌≢◌}
use Rattle.esto_term.proofs.ListLemmas.{HoldsBelow}
use Rattle.esto_data.proofs.filling.find_fragment.Given as goal

abbrev pub invariant-fragments : goal.invariant-fragments
invariant-fragments l = HoldsBelow (λ _ fragment. fragment.name ≢ l.name) l.catalogue.fragments l.number
