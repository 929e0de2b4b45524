use Rattle.esto_course.proofs.Steps.{first_stops}
use Rattle.esto_catalog.proofs.RowLemmas.{row_exit, then_walks}
use Rattle.esto_catalog.specs.Fragments.{rows_after_view}
use Rattle.esto_catalog.proofs.fragment.rows_after_view.Goals as goal

pub returns-in_err-model : goal.returns-in_err-model
returns-in_err-model c =
    row_exit (rows_after_view c.args.place c.args.view.now c.args.entry.now) _ _ c.from_residual.ensures.1
    (first_stops _ _ c.in_err-model.ensures)

pub returns : goal.returns
returns c = then_walks _ _ c.in_ok-model.model _ c.in_ok-model.ensures c.rows_after_store.ensures
