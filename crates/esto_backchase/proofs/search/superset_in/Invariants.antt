use Rattle.std.proofs.Common.{ℕ, ◌<◌}
use Rattle.esto_backchase.specs.Searching.{IsSupersetAt}
use Rattle.esto_backchase.proofs.search.superset_in.Given as goal

-- none of the sets so far has the set's numbers
abbrev pub invariant-sets : goal.invariant-sets
invariant-sets l = (earlier : ℕ) → earlier < l.place → ¬ (IsSupersetAt l.sets l.set earlier)
