use Rattle.std.proofs.Common.{refl}
use Rattle.esto_course.proofs.Steps.{first_stops, then_stops, then_goes, gives_goes}
use Rattle.esto_catalog.proofs.RowLemmas.{row_exit}
use Rattle.esto_catalog.specs.Datasets.{rows_after_name}
use Rattle.esto_catalog.proofs.dataset.rows_after_name.Goals as goal

pub returns-in_err-model : goal.returns-in_err-model
returns-in_err-model c =
    row_exit (rows_after_name c.args.place c.args.entry.now) _ _ c.from_residual.ensures.1
    (first_stops _ _ c.in_err-model.ensures)

pub returns-in_err-columns : goal.returns-in_err-columns
returns-in_err-columns c =
    row_exit (rows_after_name c.args.place c.args.entry.now) _ _ c.from_residual-in_err-columns.ensures.1
    (then_stops _ _ _ c.in_ok-model.ensures (first_stops _ _ c.in_err-columns.ensures))

pub returns-in_err-layout : goal.returns-in_err-layout
returns-in_err-layout c =
    row_exit (rows_after_name c.args.place c.args.entry.now) _ _ c.from_residual-in_err-layout.ensures.1
    (then_stops _ _ _ c.in_ok-model.ensures (then_stops _ _ _ c.in_ok-columns.ensures (first_stops _ _ c.in_err-layout.ensures)))

pub returns : goal.returns
returns c = then_goes _ _ _ _ c.in_ok-model.ensures (then_goes _ _ _ _ c.in_ok-columns.ensures
    (then_goes _ _ _ _ c.in_ok-layout.ensures (gives_goes _ _ _ refl)))
