use Rattle.esto_course.proofs.Steps.{at_exit, first_stops}
use Rattle.esto_status.proofs.Steps.{then_answers_still}
use Rattle.esto_top.proofs.list.listed.Goals as goal

pub returns-in_err-plan : goal.returns-in_err-plan
returns-in_err-plan c = at_exit _ _ c.from_residual.result c.from_residual.ensures.1 (first_stops _ _ c.in_err-plan.ensures.course)

pub returns : goal.returns
returns c = then_answers_still _ _ _ c.in_ok-plan.plan c.text_of.result c.in_ok-plan.ensures.course c.text_of.ensures
