use Rattle.esto_status.proofs.AskedSteps.{handed_asks}
use Rattle.esto_top.proofs.RunAskedLemmas.{clash_asks, plan_asks, plan_wants}
use Rattle.esto_top.proofs.RunLemmas.{clash_answers, plan_answers}
use Rattle.esto_top.proofs.run.run_query.Goals as goal

pub returns-in_err-plan-clause-asked : goal.returns-in_err-plan-clause-asked
returns-in_err-plan-clause-asked g c =
    handed_asks _ _ _ c.from_residual.ensures.1
    (plan_wants (g.S.Shelf.files c.args.shelf.now) c.args.catalogue.now c.args.query.now c.args.number (g.S.Shelf.asked c.args.shelf.now))

pub returns-in-Left-clause-answer : goal.returns-in-Left-clause-answer
returns-in-Left-clause-answer g c =
    let planned = rw c.in-Left.is at c.in_ok-plan.ensures.run in
    plan_answers (g.S.Shelf.files c.args.shelf.now) c.args.catalogue.now c.args.query.now c.args.number _ c.in-Left.plan planned c.run_plan.result
    c.run_plan.ensures.answer

pub returns-in-Left-clause-asked : goal.returns-in-Left-clause-asked
returns-in-Left-clause-asked g c =
    let planned = rw c.in-Left.is at c.in_ok-plan.ensures.run in
    plan_asks (g.S.Shelf.files c.args.shelf.now) c.args.catalogue.now c.args.query.now c.args.number c.in-Left.plan planned c.run_plan.result
    c.run_plan.ensures.asked

pub returns-in-Right-clause-answer : goal.returns-in-Right-clause-answer
returns-in-Right-clause-answer g c =
    let clashes = rw c.in-Right.is at c.in_ok-plan.ensures.run in
    clash_answers (g.S.Shelf.files c.args.shelf.now) c.args.catalogue.now c.args.query.now c.args.number _ c.in-Right.clash clashes c.no_answers.result
    c.no_answers.ensures

pub returns-in-Right-clause-asked : goal.returns-in-Right-clause-asked
returns-in-Right-clause-asked g c =
    let clashes = rw c.in-Right.is at c.in_ok-plan.ensures.run in
    clash_asks (g.S.Shelf.files c.args.shelf.now) c.args.catalogue.now c.args.query.now c.args.number (g.S.Shelf.asked c.args.shelf.now)
    c.in-Right.clash clashes c.no_answers.result c.no_answers.ensures

pub run_plan-requires : goal.run_plan-requires
run_plan-requires g c = let planned = rw c.in-Left.is at c.in_ok-plan.ensures.run in planned
