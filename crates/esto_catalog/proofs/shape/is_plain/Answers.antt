use Rattle.esto_course.proofs.Steps.{first_stops}
use Rattle.esto_catalog.proofs.RowLemmas.{row_exit, then_walks}
use Rattle.esto_catalog.specs.Shapes.{plain_rows}
use Rattle.esto_catalog.proofs.shape.is_plain.Goals as goal

pub returns-in_err-unfit : goal.returns-in_err-unfit
returns-in_err-unfit c = row_exit (plain_rows c.args.place c.args.entry.now) _ _ c.from_residual.ensures.1 (first_stops _ _ c.in_err-unfit.ensures)

pub returns : goal.returns
returns c = then_walks _ _ _ _ c.in_ok-unfit.ensures c.unfit-2.ensures
