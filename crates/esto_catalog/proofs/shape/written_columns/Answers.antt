use Rattle.std.proofs.Common.{Some}
use Rattle.esto_course.proofs.Steps.{first_stops, then_goes, gives_goes}
use Rattle.esto_catalog.proofs.RowLemmas.{row_exit, same_goes, same_stops}
use Rattle.esto_catalog.specs.Shapes.{store_columns}
use Rattle.esto_settings.specs.declared.setting.Setting.TheVariants.{Texts}
use Rattle.esto_catalog.proofs.shape.written_columns.Goals as goal

pub returns-in_err-demand : goal.returns-in_err-demand
returns-in_err-demand c =
    row_exit (store_columns c.args.place c.args.view.now (Some (Texts c.args.columns.now))) _ _ c.from_residual.ensures.1
    (first_stops _ _ (same_stops _ _ _ c.are_fit-are_fit.ensures _ c.in_err-demand.ensures))

pub returns : goal.returns
returns c =
    then_goes _ _ _ _ (same_goes _ _ _ c.are_fit-are_fit.ensures _ tt c.in_ok-demand.ensures) (gives_goes _ _ _ c.in_ok-copy.ensures)
