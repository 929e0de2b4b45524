use Rattle.std.proofs.Common.{ap, not}
use Rattle.esto_course.proofs.Steps.{first_stops, then_stops}
use Rattle.esto_catalog.proofs.RowLemmas.{checked_holds, checked_walks, not_walks, row_exit, then_walks}
use Rattle.esto_catalog.specs.Fragments.{view_row}
use Rattle.esto_catalog.proofs.fragment.view.Goals as goal

pub returns-in_err-text-clause-view : goal.returns-in_err-text-clause-view
returns-in_err-text-clause-view c =
    row_exit (view_row c.args.place c.args.scope.now.datasets c.args.earlier.now c.args.entry.now) _ _ c.from_residual.ensures.1
    (first_stops _ _ c.in_err-text.ensures.error)

pub returns-in_err-view-clause-view : goal.returns-in_err-view-clause-view
returns-in_err-view-clause-view c =
    row_exit (view_row c.args.place c.args.scope.now.datasets c.args.earlier.now c.args.entry.now) _ _ c.from_residual-in_err-view.ensures.1
    (then_stops _ _ _ c.in_ok-text.ensures.goes (first_stops _ _ c.in_err-view.ensures.view))

pub returns-clause-view : goal.returns-clause-view
returns-clause-view c =
    then_walks _ _ _ _ c.in_ok-text.ensures.goes
    (then_walks _ _ _ _ c.in_ok-view.ensures.view
    (checked_walks c.in_ok-view.view _ _ c.and.ensures _ (not_walks _ _ _ _ c.demand.ensures (ap not c.is_taken-is_taken.ensures))))

pub returns-clause-sound : goal.returns-clause-sound
returns-clause-sound c = checked_holds c.in_ok-view.view _ _ c.and.ensures _ c.in_ok-view.ensures.sound
