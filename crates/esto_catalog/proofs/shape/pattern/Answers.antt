use Rattle.esto_course.proofs.Steps.{first_stops, then_stops}
use Rattle.esto_catalog.proofs.RowLemmas.{checked_walks, row_exit, same_walks, then_walks}
use Rattle.esto_catalog.specs.Shapes.{pattern_row}
use Rattle.esto_catalog.proofs.shape.pattern.Goals as goal

pub returns-in_err-text : goal.returns-in_err-text
returns-in_err-text c =
    row_exit (pattern_row c.args.place c.args.view.now c.args.entry.now) _ _ c.from_residual.ensures.1 (first_stops _ _ c.in_err-text.ensures.error)

pub returns-in_err-pattern : goal.returns-in_err-pattern
returns-in_err-pattern c =
    row_exit (pattern_row c.args.place c.args.view.now c.args.entry.now) _ _ c.from_residual-in_err-pattern.ensures.1
    (then_stops _ _ _ c.in_ok-text.ensures.goes (first_stops _ _ c.in_err-pattern.ensures))

pub returns : goal.returns
returns c =
    then_walks _ _ _ _ c.in_ok-text.ensures.goes
    (then_walks _ _ _ _ c.in_ok-pattern.ensures
    (checked_walks c.in_ok-pattern.pattern _ _ c.and.ensures _
    (same_walks _ _ _ (rw c.len.ensures at c.is_layout-is_layout.ensures) _ c.demand.ensures)))
