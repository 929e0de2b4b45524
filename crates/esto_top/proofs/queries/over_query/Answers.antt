use Rattle.std.proofs.Common.{Option, Ok, Err, refl, subst}
use Rattle.esto_course.specs.Course.{gives}
use Rattle.esto_course.proofs.Asking.{quiet_gives}
use Rattle.esto_course.proofs.Steps.{at_exit, first_stops, gives_goes, then_goes}
use Rattle.esto_ports.specs.Files.{Files}
use Rattle.esto_status.specs.declared.reply.Reply.TheVariants.{Done}
use Rattle.esto_status.proofs.AskedSteps.{exit_asks, handed_asks, later_asks, quiet_asks}
use Rattle.esto_status.proofs.Steps.{then_answers}
use Rattle.esto_top.specs.Tasks.{tells}
use Rattle.esto_top.proofs.queries.over_query.Goals as goal

pub returns-in_err-query-clause-answer : goal.returns-in_err-query-clause-answer
returns-in_err-query-clause-answer g c = at_exit _ _ c.from_residual.result c.from_residual.ensures.1 (first_stops _ _ c.in_err-query.ensures.answer)

pub returns-in_err-query-clause-asked : goal.returns-in_err-query-clause-asked
returns-in_err-query-clause-asked g c = handed_asks _ _ _ c.from_residual.ensures.1 (exit_asks _ _ c.in_err-query.ensures.asked)

pub returns-in_err-text-clause-answer : goal.returns-in_err-text-clause-answer
returns-in_err-text-clause-answer g c =
    let stops = rw c.in_ok-query.ensures.files at c.in_err-text.ensures.answer in
    at_exit _ _ c.from_residual-in_err-text.result c.from_residual-in_err-text.ensures.1
    (then_answers _ _ _ _ _ c.in_ok-query.query (Err _) c.in_ok-query.ensures.answer c.in_ok-query.ensures.later c.in_err-text.ensures.later
    (first_stops _ _ stops))

pub returns-in_err-text-clause-asked : goal.returns-in_err-text-clause-asked
returns-in_err-text-clause-asked g c =
    let asked = rw c.in_ok-query.ensures.files at c.in_err-text.ensures.asked in
    handed_asks _ _ _ c.from_residual-in_err-text.ensures.1 (later_asks _ _ c.in_ok-query.ensures.asked (exit_asks _ _ asked))

pub returns-clause-answer : goal.returns-clause-answer
returns-clause-answer g c =
    let goes = subst (λ (it : Option Files). (tells it c.args.catalogue.now c.args.task c.in_ok-query.query).goes c.in_ok-text.text)
    c.in_ok-query.ensures.files c.in_ok-text.ensures.answer in
    then_goes _ _ c.in_ok-query.query _ c.in_ok-query.ensures.answer (then_goes _ _ c.in_ok-text.text _ goes (gives_goes _ _ _ refl))

pub returns-clause-asked : goal.returns-clause-asked
returns-clause-asked g c =
    let asked = rw c.in_ok-query.ensures.files at c.in_ok-text.ensures.asked in
    later_asks _ _ c.in_ok-query.ensures.asked (later_asks _ _ asked
    (quiet_asks (gives (Done c.in_ok-text.text)) _ (Ok (Done c.in_ok-text.text)) (quiet_gives _ _) (gives_goes _ _ _ refl)))
