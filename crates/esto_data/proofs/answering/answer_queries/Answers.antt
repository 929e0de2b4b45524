use Rattle.esto_course.proofs.Asking.{quiet_gives, quiet_judges, quiet_then}
use Rattle.esto_course.proofs.Steps.{at_exit, first_stops}
use Rattle.esto_status.proofs.AskedSteps.{exit_asks, handed_asks, later_asks, quiet_asks}
use Rattle.esto_status.proofs.Steps.{answers_still, next_answers}
use Rattle.esto_data.specs.Answer.{answers_facts}
use Rattle.esto_data.proofs.WantedLemmas.{answers_all}
use Rattle.esto_data.proofs.answering.answer_queries.Goals as goal

pub returns-in_err-coded-clause-answer : goal.returns-in_err-coded-clause-answer
returns-in_err-coded-clause-answer g c = at_exit _ _ c.from_residual.result c.from_residual.ensures.1 (first_stops _ _ c.in_err-coded.ensures.answer)

pub returns-in_err-coded-clause-asked : goal.returns-in_err-coded-clause-asked
returns-in_err-coded-clause-asked g c = handed_asks _ _ _ c.from_residual.ensures.1 (exit_asks _ _ c.in_err-coded.ensures.asked)

pub answer_data-requires-clause-coded : goal.answer_data-requires-clause-coded
answer_data-requires-clause-coded g c = let left = c.in_ok-coded.ensures.answer.2 in (left.loaded, left.stand)

pub returns-clause-answer : goal.returns-clause-answer
returns-clause-answer g c =
    let (facts, goes, left) = c.in_ok-coded.ensures.answer in
    next_answers _ _ _ facts c.answer_data.result goes
    (answers_still (answers_facts c.args.queries.now facts) _ c.answer_data.result
    (answers_all c.answers_rest_on_wanted_facts.ensures c.args.queries.now facts left.loaded.facts left.leaves c.answer_data.result
    (c.answer_data.ensures left.loaded left.stand)))

pub returns-clause-asked : goal.returns-clause-asked
returns-clause-asked g c =
    let (facts, asked, left) = c.in_ok-coded.ensures.asked in
    later_asks _ _ asked
    (quiet_asks (answers_facts c.args.queries.now facts) _ c.answer_data.result
    (quiet_then _ _ (quiet_judges _ _) (λ rows. quiet_gives _ _))
    (answers_all c.answers_rest_on_wanted_facts.ensures c.args.queries.now facts left.loaded.facts left.leaves c.answer_data.result
    (c.answer_data.ensures left.loaded left.stand)))
