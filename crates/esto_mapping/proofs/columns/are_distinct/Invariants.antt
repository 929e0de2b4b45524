use Rattle.std.proofs.Common.{◌≢◌, length}
use Rattle.std.specs.Prelude.{◌↔◌, AllPairs}
use Rattle.esto_mapping.proofs.columns.are_distinct.Given as goal

abbrev pub invariant-texts : goal.invariant-texts
invariant-texts l = AllPairs ◌≢◌ l.rest ↔ AllPairs ◌≢◌ l.texts

abbrev pub decreases-texts : goal.decreases-texts
decreases-texts l = length l.rest
