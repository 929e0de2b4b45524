use Rattle.esto_course.proofs.Steps.{first_stops}
use Rattle.esto_catalog.proofs.RowLemmas.{both_walk, row_exit, then_walks}
use Rattle.esto_catalog.specs.Shapes.{table_row}
use Rattle.esto_catalog.proofs.shape.table.Goals as goal

pub returns-in_err-columns : goal.returns-in_err-columns
returns-in_err-columns c =
    row_exit (table_row c.args.place c.args.view.now c.args.entry.now) _ _ c.from_residual.ensures.1
    (first_stops _ _ (c.in_err-columns.ensures))

pub returns : goal.returns
returns c = then_walks _ _ _ _ c.in_ok-columns.ensures (both_walk _ _ _ c.and.ensures _ _ c.is_plain.ensures)
