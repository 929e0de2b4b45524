use Rattle.esto_course.proofs.Steps.{at_exit, first_stops}
use Rattle.esto_status.proofs.AskedSteps.{exit_asks, handed_asks, later_asks}
use Rattle.esto_status.proofs.Steps.{then_answers}
use Rattle.esto_top.proofs.unions.over_union.Goals as goal

pub returns-in_err-queries-clause-answer : goal.returns-in_err-queries-clause-answer
returns-in_err-queries-clause-answer g c = at_exit _ _ c.from_residual.result c.from_residual.ensures.1 (first_stops _ _ c.in_err-queries.ensures.answer)

pub returns-in_err-queries-clause-asked : goal.returns-in_err-queries-clause-asked
returns-in_err-queries-clause-asked g c = handed_asks _ _ _ c.from_residual.ensures.1 (exit_asks _ _ c.in_err-queries.ensures.asked)

pub returns-clause-answer : goal.returns-clause-answer
returns-clause-answer g c =
    let answer = rw c.in_ok-queries.ensures.files at c.serve_union.ensures.answer in
    then_answers _ _ _ _ _ c.in_ok-queries.queries c.serve_union.result c.in_ok-queries.ensures.answer c.in_ok-queries.ensures.later
    c.serve_union.ensures.later answer

pub returns-clause-asked : goal.returns-clause-asked
returns-clause-asked g c =
    let asked = rw c.in_ok-queries.ensures.files at c.serve_union.ensures.asked in
    later_asks _ _ c.in_ok-queries.ensures.asked asked
