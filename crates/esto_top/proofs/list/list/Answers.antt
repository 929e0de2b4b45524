use Rattle.esto_course.proofs.Steps.{at_exit, first_stops}
use Rattle.esto_top.proofs.list.list.Goals as goal

pub returns-in_err-text : goal.returns-in_err-text
returns-in_err-text c = at_exit _ _ c.from_residual.result c.from_residual.ensures.1 (first_stops _ _ c.in_err-text.ensures)
