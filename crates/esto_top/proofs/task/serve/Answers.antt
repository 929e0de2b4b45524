use Rattle.esto_course.proofs.Asking.{quiet_gives}
use Rattle.esto_status.proofs.AskedSteps.{quiet_asks}
use Rattle.esto_status.proofs.Steps.{answers_still}
use Rattle.esto_top.specs.Check.{prints_check}
use Rattle.esto_top.proofs.task.serve.Goals as goal

pub returns-in-Check-clause-answer : goal.returns-in-Check-clause-answer
returns-in-Check-clause-answer g c = rw c.in-Check.is (answers_still (prints_check c.args.catalogue.now) _ c.check.result c.check.ensures)

pub returns-in-Check-clause-asked : goal.returns-in-Check-clause-asked
returns-in-Check-clause-asked g c =
    rw c.in-Check.is (quiet_asks (prints_check c.args.catalogue.now) _ c.check.result (quiet_gives _ _) c.check.ensures)

pub returns-in-Audit-clause-answer : goal.returns-in-Audit-clause-answer
returns-in-Audit-clause-answer g c = rw c.in-Audit.is c.audit_catalogue.ensures.answer

pub returns-in-Audit-clause-asked : goal.returns-in-Audit-clause-asked
returns-in-Audit-clause-asked g c = rw c.in-Audit.is c.audit_catalogue.ensures.asked

pub returns-in-Fill-clause-answer : goal.returns-in-Fill-clause-answer
returns-in-Fill-clause-answer g c = rw c.in-Fill.is c.fill_named.ensures.answer

pub returns-in-Fill-clause-asked : goal.returns-in-Fill-clause-asked
returns-in-Fill-clause-asked g c = rw c.in-Fill.is c.fill_named.ensures.asked

pub returns-in-Contains-clause-answer : goal.returns-in-Contains-clause-answer
returns-in-Contains-clause-answer g c = rw c.in-Contains.is c.compare.ensures.answer

pub returns-in-Contains-clause-asked : goal.returns-in-Contains-clause-asked
returns-in-Contains-clause-asked g c = rw c.in-Contains.is c.compare.ensures.asked

pub returns-in-Query-clause-answer : goal.returns-in-Query-clause-answer
returns-in-Query-clause-answer g c = rw c.in-Query.is c.over_query.ensures.answer

pub returns-in-Query-clause-asked : goal.returns-in-Query-clause-asked
returns-in-Query-clause-asked g c = rw c.in-Query.is c.over_query.ensures.asked

pub returns-in-Union-clause-answer : goal.returns-in-Union-clause-answer
returns-in-Union-clause-answer g c = rw c.in-Union.is c.over_union.ensures.answer

pub returns-in-Union-clause-asked : goal.returns-in-Union-clause-asked
returns-in-Union-clause-asked g c = rw c.in-Union.is c.over_union.ensures.asked
