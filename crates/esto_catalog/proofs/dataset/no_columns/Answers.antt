use Rattle.esto_course.proofs.Steps.{first_stops}
use Rattle.esto_catalog.proofs.RowLemmas.{row_exit}
use Rattle.esto_catalog.specs.Datasets.{no_columns}
use Rattle.esto_catalog.proofs.dataset.no_columns.Goals as goal

pub returns-in_err-unfit : goal.returns-in_err-unfit
returns-in_err-unfit c =
    row_exit (no_columns c.args.place c.args.entry.now) _ _ c.from_residual.ensures.1
    (first_stops _ _ (c.in_err-unfit.ensures))
