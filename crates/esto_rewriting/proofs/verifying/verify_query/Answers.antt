use Rattle.std.proofs.Common.{Err}
use Rattle.esto_course.specs.Course.{judges}
use Rattle.esto_course.proofs.Asking.{quiet_judges}
use Rattle.esto_course.proofs.Steps.{at_exit, then_stops}
use Rattle.esto_status.proofs.AskedSteps.{exit_asks, handed_asks, quiet_asks}
use Rattle.esto_status.proofs.Steps.{next_answers, still_stops}
use Rattle.esto_rewriting.specs.Planning.{plans_query}
use Rattle.esto_rewriting.proofs.AskedLemmas.{set_asks, set_exit_asks}
use Rattle.esto_rewriting.proofs.verifying.verify_query.Goals as goal

pub verify_set-requires-clause-count : goal.verify_set-requires-clause-count
unfolding judges
verify_set-requires-clause-count g c = c.in_ok-set.ensures.over

pub returns-in_err-set-clause-asked : goal.returns-in_err-set-clause-asked
returns-in_err-set-clause-asked g c =
    handed_asks _ _ _ c.from_residual-in_err-set.ensures.1
    (set_exit_asks (g.S.Shelf.files c.args.shelf.now) c.args.numbers.now c.args.file.now c.args.catalogue.now c.args.query.now c.in_ok-plan.plan
    c.in_ok-plan.ensures.course (g.S.Shelf.asked c.args.shelf.now) _ c.in_err-set.ensures)

pub returns-in_err-plan-clause-answer : goal.returns-in_err-plan-clause-answer
returns-in_err-plan-clause-answer g c = at_exit _ _ c.from_residual.result c.from_residual.ensures.1 (still_stops _ _ c.in_err-plan.ensures.course)

pub returns-in_err-plan-clause-asked : goal.returns-in_err-plan-clause-asked
returns-in_err-plan-clause-asked g c =
    handed_asks _ _ _ c.from_residual.ensures.1
    (exit_asks _ _ (quiet_asks (plans_query c.args.catalogue.now c.args.query.now) _ (Err _) (quiet_judges _ _) c.in_err-plan.ensures.course))

pub returns-in_err-set-clause-answer : goal.returns-in_err-set-clause-answer
returns-in_err-set-clause-answer g c =
    at_exit _ _ c.from_residual-in_err-set.result c.from_residual-in_err-set.ensures.1
    (then_stops _ _ c.in_ok-plan.plan c.in_ok-plan.ensures.course (still_stops _ _ c.in_err-set.ensures))

pub returns-clause-answer : goal.returns-clause-answer
returns-clause-answer g c =
    next_answers _ _ _ c.in_ok-plan.plan c.verify_set.result c.in_ok-plan.ensures.course
    (next_answers _ _ _ c.in_ok-set.set c.verify_set.result c.in_ok-set.ensures c.verify_set.ensures.answer)

pub returns-clause-asked : goal.returns-clause-asked
returns-clause-asked g c =
    set_asks (g.S.Shelf.files c.args.shelf.now) c.args.numbers.now c.args.file.now c.args.catalogue.now c.args.query.now c.in_ok-plan.plan
    c.in_ok-plan.ensures.course c.in_ok-set.set c.in_ok-set.ensures _ c.verify_set.ensures.asked
