use Rattle.esto_reasoning.specs.Contains.{compares}
use Rattle.esto_reasoning.specs.Minimise.{minimises}
use Rattle.esto_reasoning.proofs.CourseLemmas.{compares_quiet, minimises_quiet}
use Rattle.esto_rewriting.specs.Explain.{explains_query}
use Rattle.esto_rewriting.proofs.ExplainLemmas.{quiet_explains}
use Rattle.esto_status.proofs.AskedSteps.{quiet_asks}
use Rattle.esto_status.proofs.Steps.{answers_still}
use Rattle.esto_top.proofs.queries.tell.Goals as goal

pub returns-in-Compare-clause-answer : goal.returns-in-Compare-clause-answer
returns-in-Compare-clause-answer g c =
    rw c.in-Compare.is (answers_still (compares c.args.catalogue.now c.in-Compare.left.now c.args.query.now) _ c.compared.result c.compared.ensures)

pub returns-in-Compare-clause-asked : goal.returns-in-Compare-clause-asked
returns-in-Compare-clause-asked g c =
    rw c.in-Compare.is (quiet_asks (compares c.args.catalogue.now c.in-Compare.left.now c.args.query.now) _ c.compared.result
    (compares_quiet c.args.catalogue.now c.in-Compare.left.now c.args.query.now) c.compared.ensures)

pub returns-in-Minimise-clause-answer : goal.returns-in-Minimise-clause-answer
returns-in-Minimise-clause-answer g c =
    rw c.in-Minimise.is (answers_still (minimises c.args.catalogue.now c.args.query.now) _ c.minimised.result c.minimised.ensures)

pub returns-in-Minimise-clause-asked : goal.returns-in-Minimise-clause-asked
returns-in-Minimise-clause-asked g c =
    rw c.in-Minimise.is (quiet_asks (minimises c.args.catalogue.now c.args.query.now) _ c.minimised.result
    (minimises_quiet c.args.catalogue.now c.args.query.now) c.minimised.ensures)

pub returns-in-Explain-clause-answer : goal.returns-in-Explain-clause-answer
returns-in-Explain-clause-answer g c =
    rw c.in-Explain.is (answers_still (explains_query c.in-Explain.number c.args.catalogue.now c.args.query.now) _ c.explain_query.result
    c.explain_query.ensures)

pub returns-in-Explain-clause-asked : goal.returns-in-Explain-clause-asked
returns-in-Explain-clause-asked g c =
    rw c.in-Explain.is (quiet_asks (explains_query c.in-Explain.number c.args.catalogue.now c.args.query.now) _ c.explain_query.result
    (quiet_explains c.in-Explain.number c.args.catalogue.now c.args.query.now) c.explain_query.ensures)

pub returns-in-Verify-clause-answer : goal.returns-in-Verify-clause-answer
returns-in-Verify-clause-answer g c = rw c.in-Verify.is c.verify_query.ensures.answer

pub returns-in-Verify-clause-asked : goal.returns-in-Verify-clause-asked
returns-in-Verify-clause-asked g c = rw c.in-Verify.is c.verify_query.ensures.asked
