use Rattle.esto_course.proofs.Steps.{at_exit, first_stops}
use Rattle.esto_status.proofs.AskedSteps.{exit_asks, handed_asks, later_asks}
use Rattle.esto_status.proofs.Steps.{then_answers}
use Rattle.esto_top.proofs.queries.compare.Goals as goal

pub returns-in_err-left-clause-answer : goal.returns-in_err-left-clause-answer
returns-in_err-left-clause-answer g c = at_exit _ _ c.from_residual.result c.from_residual.ensures.1 (first_stops _ _ c.in_err-left.ensures.answer)

pub returns-in_err-left-clause-asked : goal.returns-in_err-left-clause-asked
returns-in_err-left-clause-asked g c = handed_asks _ _ _ c.from_residual.ensures.1 (exit_asks _ _ c.in_err-left.ensures.asked)

pub returns-clause-answer : goal.returns-clause-answer
returns-clause-answer g c =
    let answer = rw c.in_ok-left.ensures.files at c.over_query.ensures.answer in
    then_answers _ _ _ _ _ c.in_ok-left.left c.over_query.result c.in_ok-left.ensures.answer c.in_ok-left.ensures.later
    c.over_query.ensures.later answer

pub returns-clause-asked : goal.returns-clause-asked
returns-clause-asked g c =
    let asked = rw c.in_ok-left.ensures.files at c.over_query.ensures.asked in
    later_asks _ _ c.in_ok-left.ensures.asked asked
