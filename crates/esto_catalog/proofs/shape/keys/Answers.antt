use Rattle.esto_course.proofs.Steps.{first_stops}
use Rattle.esto_catalog.proofs.RowLemmas.{both_walk, row_exit, then_walks}
use Rattle.esto_catalog.specs.Shapes.{keys_row}
use Rattle.esto_catalog.proofs.shape.keys.Goals as goal

pub returns-in_err-unfit : goal.returns-in_err-unfit
returns-in_err-unfit c =
    row_exit (keys_row c.args.place c.args.entry.now) _ _ c.from_residual.ensures.1
    (first_stops _ _ (c.in_err-unfit.ensures))

pub returns : goal.returns
returns c = then_walks _ _ _ _ c.in_ok-unfit.ensures (both_walk _ _ _ c.and.ensures _ _ c.is_plain.ensures)
