use Rattle.esto_course.proofs.Steps.{first_stops}
use Rattle.esto_catalog.proofs.RowLemmas.{row_exit, then_walks}
use Rattle.esto_catalog.specs.Reading.{reads_catalogue}
use Rattle.esto_catalog.proofs.walk.walk.Goals as goal

pub returns-in_err-sections : goal.returns-in_err-sections
returns-in_err-sections c =
    row_exit (reads_catalogue c.args.bytes.now) _ _ c.from_residual.ensures.1 (first_stops _ _ c.in_err-sections.ensures.whole)

pub returns : goal.returns
returns c = then_walks _ _ c.in_ok-sections.sections _ c.in_ok-sections.ensures.whole c.read_sections.ensures
