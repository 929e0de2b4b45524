use Rattle.esto_course.proofs.Asking.{quiet_judges}
use Rattle.esto_course.proofs.Steps.{at_exit, first_stops}
use Rattle.esto_status.proofs.AskedSteps.{exit_asks, handed_asks, later_asks, quiet_asks}
use Rattle.esto_status.proofs.Steps.{then_answers_still}
use Rattle.esto_rewriting.specs.Verify.{judges_certificate}
use Rattle.esto_rewriting.proofs.verifying.verify_set.Goals as goal

pub returns-in_err-bytes-clause-answer : goal.returns-in_err-bytes-clause-answer
returns-in_err-bytes-clause-answer g c = at_exit _ _ c.from_residual.result c.from_residual.ensures.1 (first_stops _ _ c.in_err-bytes.ensures.answer)

pub returns-in_err-bytes-clause-asked : goal.returns-in_err-bytes-clause-asked
returns-in_err-bytes-clause-asked g c = handed_asks _ _ _ c.from_residual.ensures.1 (exit_asks _ _ c.in_err-bytes.ensures.asked)

pub returns-clause-answer : goal.returns-clause-answer
returns-clause-answer g c =
    then_answers_still _ _ _ c.in_ok-bytes.bytes c.judged.result c.in_ok-bytes.ensures.answer c.judged.ensures

pub returns-clause-asked : goal.returns-clause-asked
returns-clause-asked g c =
    later_asks _ _ c.in_ok-bytes.ensures.asked (quiet_asks (judges_certificate c.args.catalogue.now c.args.query.now c.args.plan.now c.args.set.now
    c.in_ok-bytes.bytes) _ c.judged.result (quiet_judges _ _) c.judged.ensures)
