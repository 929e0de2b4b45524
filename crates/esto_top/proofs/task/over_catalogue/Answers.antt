use Rattle.esto_course.proofs.Steps.{at_exit, first_stops}
use Rattle.esto_status.proofs.AskedSteps.{exit_asks, handed_asks, later_asks}
use Rattle.esto_status.proofs.Steps.{then_answers}
use Rattle.esto_top.proofs.task.over_catalogue.Goals as goal

pub returns-in_err-catalogue-clause-answer : goal.returns-in_err-catalogue-clause-answer
returns-in_err-catalogue-clause-answer g c = at_exit _ _ c.from_residual.result c.from_residual.ensures.1 (first_stops _ _ c.in_err-catalogue.ensures.answer)

pub returns-in_err-catalogue-clause-asked : goal.returns-in_err-catalogue-clause-asked
returns-in_err-catalogue-clause-asked g c = handed_asks _ _ _ c.from_residual.ensures.1 (exit_asks _ _ c.in_err-catalogue.ensures.asked)

pub returns-clause-answer : goal.returns-clause-answer
returns-clause-answer g c =
    let answer = rw c.in_ok-catalogue.ensures.files at c.serve.ensures.answer in
    then_answers _ _ _ _ _ c.in_ok-catalogue.catalogue c.serve.result c.in_ok-catalogue.ensures.answer c.in_ok-catalogue.ensures.later
    c.serve.ensures.later answer

pub returns-clause-asked : goal.returns-clause-asked
returns-clause-asked g c =
    let asked = rw c.in_ok-catalogue.ensures.files at c.serve.ensures.asked in
    later_asks _ _ c.in_ok-catalogue.ensures.asked asked
