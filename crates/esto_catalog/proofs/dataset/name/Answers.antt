use Rattle.std.proofs.Common.{ap, not, refl, ◌∙◌}
use Rattle.esto_course.proofs.Steps.{first_stops, then_stops, then_goes, gives_goes}
use Rattle.esto_course.specs.Course.{Stops}
use Rattle.esto_catalog.proofs.RowLemmas.{error_exit, test_goes, test_stops, not_goes, not_stops}
use Rattle.esto_catalog.specs.Datasets.{name_row}
use Rattle.esto_mapping.specs.Datasets.{is_name}
use Rattle.esto_catalog.specs.Rows.{IsAny, IsWant}
use Rattle.esto_catalog.proofs.dataset.name.Goals as goal

pub returns-in_err-name-clause-error : goal.returns-in_err-name-clause-error
returns-in_err-name-clause-error c =
    error_exit (Stops IsWant IsAny (name_row c.args.place c.args.earlier.now c.args.entry.now)) _ _ c.from_residual.ensures.1
    (first_stops _ _ c.in_err-name.ensures.error)

pub returns-in_err-demand-clause-error : goal.returns-in_err-demand-clause-error
returns-in_err-demand-clause-error c =
    error_exit (Stops IsWant IsAny (name_row c.args.place c.args.earlier.now c.args.entry.now)) _ _ c.from_residual-in_err-demand.ensures.1
    (then_stops _ _ _ c.in_ok-name.ensures.goes (first_stops _ _ (test_stops _ _ _ _ c.in_err-demand.ensures
    (c.is_name-is_name.ensures ∙ ap is_name c.bytes-bytes.ensures.value))))

pub returns-in_err-demand-2-clause-error : goal.returns-in_err-demand-2-clause-error
returns-in_err-demand-2-clause-error c =
    error_exit (Stops IsWant IsAny (name_row c.args.place c.args.earlier.now c.args.entry.now)) _ _ c.from_residual-in_err-demand-2.ensures.1
    (then_stops _ _ _ c.in_ok-name.ensures.goes (then_stops _ _ _ (test_goes _ _ _ _ tt c.in_ok-demand.ensures
    (c.is_name-is_name.ensures ∙ ap is_name c.bytes-bytes.ensures.value))
    (first_stops _ _ (not_stops _ _ _ _ c.in_err-demand-2.ensures (ap not c.has_dataset-is_there.ensures)))))

pub returns-clause-goes : goal.returns-clause-goes
returns-clause-goes c =
    then_goes _ _ _ _ c.in_ok-name.ensures.goes (then_goes _ _ _ _ (test_goes _ _ _ _ tt c.in_ok-demand.ensures
    (c.is_name-is_name.ensures ∙ ap is_name c.bytes-bytes.ensures.value))
    (then_goes _ _ _ _ (not_goes _ _ _ _ tt c.in_ok-demand-2.ensures (ap not c.has_dataset-is_there.ensures)) (gives_goes _ _ _ refl)))
