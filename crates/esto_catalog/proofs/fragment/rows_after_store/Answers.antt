use Rattle.std.proofs.Common.{refl}
use Rattle.esto_course.proofs.Steps.{first_stops, then_stops, then_goes, gives_goes}
use Rattle.esto_catalog.proofs.RowLemmas.{row_exit}
use Rattle.esto_catalog.specs.Fragments.{rows_after_store}
use Rattle.esto_catalog.proofs.fragment.rows_after_store.Goals as goal

pub returns-in_err-file : goal.returns-in_err-file
returns-in_err-file c =
    row_exit (rows_after_store c.args.place c.args.model c.args.view.now c.args.entry.now) _ _ c.from_residual.ensures.1
    (first_stops _ _ c.in_err-file.ensures)

pub returns-in_err-shape : goal.returns-in_err-shape
returns-in_err-shape c =
    row_exit (rows_after_store c.args.place c.args.model c.args.view.now c.args.entry.now) _ _ c.from_residual-in_err-shape.ensures.1
    (then_stops _ _ _ c.in_ok-file.ensures (first_stops _ _ c.in_err-shape.ensures))

pub returns : goal.returns
returns c = then_goes _ _ _ _ c.in_ok-file.ensures (then_goes _ _ _ _ c.in_ok-shape.ensures (gives_goes _ _ _ refl))
