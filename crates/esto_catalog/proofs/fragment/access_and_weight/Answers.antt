use Rattle.std.proofs.Common.{refl}
use Rattle.esto_course.proofs.Steps.{first_stops, then_stops, then_goes, gives_goes}
use Rattle.esto_catalog.proofs.RowLemmas.{row_exit}
use Rattle.esto_catalog.specs.Fragments.{access_and_weight_rows}
use Rattle.esto_catalog.proofs.fragment.access_and_weight.Goals as goal

pub returns-in_err-access : goal.returns-in_err-access
returns-in_err-access c =
    row_exit (access_and_weight_rows c.args.place c.args.model c.args.view.now c.args.entry.now) _ _ c.from_residual.ensures.1
    (first_stops _ _ c.in_err-access.ensures)

pub returns-in_err-weight : goal.returns-in_err-weight
returns-in_err-weight c =
    row_exit (access_and_weight_rows c.args.place c.args.model c.args.view.now c.args.entry.now) _ _ c.from_residual-in_err-weight.ensures.1
    (then_stops _ _ _ c.in_ok-access.ensures (first_stops _ _ c.in_err-weight.ensures))

pub returns : goal.returns
returns c = then_goes _ _ _ _ c.in_ok-access.ensures (then_goes _ _ _ _ c.in_ok-weight.ensures (gives_goes _ _ _ refl))
