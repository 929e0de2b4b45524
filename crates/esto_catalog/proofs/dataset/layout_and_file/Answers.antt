use Rattle.std.proofs.Common.{refl}
use Rattle.esto_course.proofs.Steps.{first_stops, then_stops, then_goes, gives_goes}
use Rattle.esto_catalog.proofs.RowLemmas.{row_exit}
use Rattle.esto_catalog.specs.Datasets.{layout_and_file_rows}
use Rattle.esto_catalog.proofs.dataset.layout_and_file.Goals as goal

pub returns-in_err-layout : goal.returns-in_err-layout
returns-in_err-layout c =
    row_exit (layout_and_file_rows c.args.place c.args.model c.args.entry.now) _ _ c.from_residual.ensures.1
    (first_stops _ _ c.in_err-layout.ensures)

pub returns-in_err-file : goal.returns-in_err-file
returns-in_err-file c =
    row_exit (layout_and_file_rows c.args.place c.args.model c.args.entry.now) _ _ c.from_residual-in_err-file.ensures.1
    (then_stops _ _ _ c.in_ok-layout.ensures (first_stops _ _ c.in_err-file.ensures))

pub returns : goal.returns
returns c = then_goes _ _ _ _ c.in_ok-layout.ensures (then_goes _ _ _ _ c.in_ok-file.ensures (gives_goes _ _ _ refl))
