use Rattle.esto_course.proofs.Steps.{first_stops, then_stops, then_goes, gives_goes}
use Rattle.esto_catalog.proofs.RowLemmas.{row_exit}
use Rattle.esto_catalog.proofs.WholeLemmas.{datasets_few}
use Rattle.esto_catalog.specs.Whole.{reads_whole}
use Rattle.esto_catalog.proofs.whole.read_whole.Goals as goal

pub returns-in_err-document-clause-whole : goal.returns-in_err-document-clause-whole
returns-in_err-document-clause-whole c =
    row_exit (reads_whole c.args.bytes.now) _ _ c.from_residual.ensures.1 (first_stops _ _ c.in_err-document.ensures)

pub returns-in_err-version-clause-whole : goal.returns-in_err-version-clause-whole
returns-in_err-version-clause-whole c =
    row_exit (reads_whole c.args.bytes.now) _ _ c.from_residual-in_err-version.ensures.1
    (then_stops _ _ _ c.in_ok-document.ensures (first_stops _ _ c.in_err-version.ensures))

pub returns-clause-whole : goal.returns-clause-whole
returns-clause-whole c =
    then_goes _ _ _ _ c.in_ok-document.ensures (then_goes _ _ _ _ c.in_ok-version.ensures (gives_goes _ _ _ c.sections_of.ensures))

pub returns-clause-few : goal.returns-clause-few
returns-clause-few c =
    rw c.sections_of.ensures (datasets_few c.in_ok-document.document c.in_ok-version.version c.in_ok-version.core c.in_ok-version.ensures)
