use Rattle.std.proofs.Common.{◌≡◌, length}
use Rattle.esto_stores.specs.Table.{without_marks}
use Rattle.esto_stores.proofs.marks.drop_marks.Given as goal

abbrev pub invariant-marks : goal.invariant-marks
invariant-marks l = without_marks l.fn.bytes ≡ without_marks l.rest

abbrev pub decreases-marks : goal.decreases-marks
decreases-marks l = length l.rest
