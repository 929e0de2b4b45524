use Rattle.esto_course.proofs.Asking.{quiet_gives, quiet_judges, quiet_then}
use Rattle.esto_course.proofs.Steps.{at_exit, first_stops}
use Rattle.esto_data.specs.Audit.{tells}
use Rattle.esto_status.proofs.AskedSteps.{exit_asks, handed_asks, later_asks, quiet_asks}
use Rattle.esto_status.proofs.Steps.{then_answers_still}
use Rattle.esto_data.proofs.CodedLemmas.{audit_stays}
use Rattle.esto_data.proofs.auditing.audit_rows.Goals as goal

pub open_all_rows-requires : goal.open_all_rows-requires
open_all_rows-requires g c = let left = c.requires.facts.1.held.left in (left.loaded, left.stand)

pub returns-in_err-rows-clause-answer : goal.returns-in_err-rows-clause-answer
returns-in_err-rows-clause-answer g c facts holds =
    at_exit _ _ c.from_residual.result c.from_residual.ensures.1 (first_stops _ _ c.in_err-rows.ensures.answer.0)

pub returns-in_err-rows-clause-asked : goal.returns-in_err-rows-clause-asked
returns-in_err-rows-clause-asked g c facts holds =
    handed_asks _ _ c.from_residual.result c.from_residual.ensures.1 (exit_asks _ _ c.in_err-rows.ensures.answer.1)

pub tell-requires-clause-facts : goal.tell-requires-clause-facts
tell-requires-clause-facts g c = (c.requires.facts.0, audit_stays _ _ c.in_ok-rows.ensures.stays _ _ _ _ c.requires.facts.1)

pub tell-requires-clause-rows : goal.tell-requires-clause-rows
tell-requires-clause-rows g c = let opened = c.in_ok-rows.ensures.answer in (opened.0, opened.2)

pub returns-clause-answer : goal.returns-clause-answer
returns-clause-answer g c facts holds =
    let (contents, goes, held, asked) = c.in_ok-rows.ensures.answer in
    then_answers_still _ (tells c.args.catalogue.now facts) _ contents c.tell.result goes
    (c.tell.ensures facts (audit_stays _ _ c.in_ok-rows.ensures.stays _ _ _ _ holds) contents held)

pub returns-clause-asked : goal.returns-clause-asked
returns-clause-asked g c facts holds =
    let (contents, goes, held, asked) = c.in_ok-rows.ensures.answer in
    later_asks _ (tells c.args.catalogue.now facts) asked
    (quiet_asks (tells c.args.catalogue.now facts contents) _ c.tell.result (quiet_then _ _ (quiet_judges _ _) (λ _. quiet_gives _ _))
    (c.tell.ensures facts (audit_stays _ _ c.in_ok-rows.ensures.stays _ _ _ _ holds) contents held))
