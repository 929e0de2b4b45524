use Rattle.esto_status.proofs.AskedSteps.{quiet_asks}
use Rattle.esto_status.proofs.Steps.{answers_still}
use Rattle.esto_top.specs.List.{prints_queries}
use Rattle.esto_top.proofs.ListCourseLemmas.{prints_quiet}
use Rattle.esto_top.proofs.unions.serve_union.Goals as goal

pub returns-in-List-clause-answer : goal.returns-in-List-clause-answer
returns-in-List-clause-answer g c =
    let answer = rw c.items.ensures at c.list.ensures in
    rw c.in-List.is (answers_still (prints_queries c.args.catalogue.now c.args.queries.now) _ c.list.result answer)

pub returns-in-List-clause-asked : goal.returns-in-List-clause-asked
returns-in-List-clause-asked g c =
    let answer = rw c.items.ensures at c.list.ensures in
    rw c.in-List.is (quiet_asks (prints_queries c.args.catalogue.now c.args.queries.now) _ c.list.result
    (prints_quiet c.args.catalogue.now c.args.queries.now) answer)

pub returns-in-Run-clause-answer : goal.returns-in-Run-clause-answer
returns-in-Run-clause-answer g c =
    let answer = rw c.items-in-Run.ensures at c.run.ensures.answer in
    rw c.in-Run.is answer

pub returns-in-Run-clause-asked : goal.returns-in-Run-clause-asked
returns-in-Run-clause-asked g c =
    let asked = rw c.items-in-Run.ensures at c.run.ensures.asked in
    rw c.in-Run.is asked

pub returns-in-Answer-clause-answer : goal.returns-in-Answer-clause-answer
returns-in-Answer-clause-answer g c = rw c.in-Answer.is c.answer_queries.ensures.answer

pub returns-in-Answer-clause-asked : goal.returns-in-Answer-clause-asked
returns-in-Answer-clause-asked g c = rw c.in-Answer.is c.answer_queries.ensures.asked
