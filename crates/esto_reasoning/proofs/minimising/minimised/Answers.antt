use Rattle.esto_course.proofs.Steps.{at_exit, first_stops}
use Rattle.esto_status.proofs.Steps.{next_answers}
use Rattle.esto_reasoning.proofs.minimising.minimised.Goals as goal

pub returns-in_err-minimal : goal.returns-in_err-minimal
returns-in_err-minimal c = at_exit _ _ c.from_residual.result c.from_residual.ensures.1 (first_stops _ _ c.in_err-minimal.ensures.course)

pub returns : goal.returns
returns c = next_answers _ _ ⊥ c.in_ok-minimal.minimal c.text_of.result c.in_ok-minimal.ensures.course c.text_of.ensures
