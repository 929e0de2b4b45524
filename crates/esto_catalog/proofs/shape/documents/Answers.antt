use Rattle.std.proofs.Common.{refl}
use Rattle.esto_course.proofs.Steps.{first_stops, then_stops, then_goes, gives_goes}
use Rattle.esto_catalog.proofs.RowLemmas.{row_exit}
use Rattle.esto_catalog.specs.Shapes.{documents_row}
use Rattle.esto_catalog.proofs.shape.documents.Goals as goal

pub returns-in_err-unfit : goal.returns-in_err-unfit
returns-in_err-unfit c =
    row_exit (documents_row c.args.place c.args.view.now c.args.entry.now) _ _ c.from_residual.ensures.1
    (first_stops _ _ (c.in_err-unfit.ensures))

pub returns-in_err-layout : goal.returns-in_err-layout
returns-in_err-layout c =
    row_exit (documents_row c.args.place c.args.view.now c.args.entry.now) _ _ c.from_residual-in_err-layout.ensures.1
    (then_stops _ _ _ (c.in_ok-unfit.ensures) (first_stops _ _ (c.in_err-layout.ensures)))

pub returns-in_err-pattern : goal.returns-in_err-pattern
returns-in_err-pattern c =
    row_exit (documents_row c.args.place c.args.view.now c.args.entry.now) _ _ c.from_residual-in_err-pattern.ensures.1
    (then_stops _ _ _ (c.in_ok-unfit.ensures) (then_stops _ _ _ (c.in_ok-layout.ensures) (first_stops _ _ (c.in_err-pattern.ensures))))

pub returns : goal.returns
returns c = then_goes _ _ _ _ c.in_ok-unfit.ensures (then_goes _ _ _ _ c.in_ok-layout.ensures
    (then_goes _ _ _ _ c.in_ok-pattern.ensures (gives_goes _ _ _ refl)))
