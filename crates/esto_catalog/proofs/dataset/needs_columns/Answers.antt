use Rattle.esto_course.proofs.Steps.{first_stops, then_stops, then_goes, gives_goes}
use Rattle.esto_catalog.proofs.RowLemmas.{row_exit, same_goes, same_stops}
use Rattle.esto_catalog.specs.Datasets.{needs_columns}
use Rattle.esto_catalog.proofs.dataset.needs_columns.Goals as goal

pub returns-in_err-columns : goal.returns-in_err-columns
returns-in_err-columns c =
    row_exit (needs_columns c.args.place c.args.entry.now) _ _ c.from_residual.ensures.1 (first_stops _ _ c.in_err-columns.ensures.error)

pub returns-in_err-demand : goal.returns-in_err-demand
returns-in_err-demand c =
    row_exit (needs_columns c.args.place c.args.entry.now) _ _ c.from_residual-in_err-demand.ensures.1
    (then_stops _ _ _ c.in_ok-columns.ensures.goes (first_stops _ _ (same_stops _ _ _
    (rw c.items-texts.ensures at c.are_columns-are_columns.ensures) _ c.in_err-demand.ensures)))

pub returns : goal.returns
returns c =
    then_goes _ _ _ _ c.in_ok-columns.ensures.goes (then_goes _ _ _ _ (same_goes _ _ _
    (rw c.items-texts.ensures at c.are_columns-are_columns.ensures) _ tt c.in_ok-demand.ensures) (gives_goes _ _ _ c.in_ok-copy.ensures))
