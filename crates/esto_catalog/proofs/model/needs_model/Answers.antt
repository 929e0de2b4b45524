use Rattle.esto_course.proofs.Steps.{first_stops}
use Rattle.esto_catalog.proofs.RowLemmas.{row_exit, then_walks}
use Rattle.esto_catalog.specs.Models.{needs_model}
use Rattle.esto_catalog.proofs.model.needs_model.Goals as goal

pub returns-in_err-text : goal.returns-in_err-text
returns-in_err-text c =
    row_exit (needs_model c.args.kind c.args.place c.args.key.now c.args.entry.now) _ _ c.from_residual.ensures.1
    (first_stops _ _ c.in_err-text.ensures.error)

pub returns : goal.returns
returns c = then_walks _ _ _ _ c.in_ok-text.ensures.goes c.written_model.ensures
