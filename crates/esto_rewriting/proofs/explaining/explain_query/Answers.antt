use Rattle.esto_course.proofs.Steps.{at_exit, first_stops}
use Rattle.esto_status.proofs.Steps.{next_answers}
use Rattle.esto_rewriting.proofs.explaining.explain_query.Goals as goal

pub returns-in_err-plan : goal.returns-in_err-plan
returns-in_err-plan c = at_exit _ _ c.from_residual.result c.from_residual.ensures.1 (first_stops _ _ c.in_err-plan.ensures.course)

pub returns : goal.returns
returns c = next_answers _ _ ⊥ c.in_ok-plan.plan c.explain_plan.result c.in_ok-plan.ensures.course c.explain_plan.ensures
