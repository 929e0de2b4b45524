use Rattle.std.proofs.lemmas.Result.{on_ok_weaker}
use Rattle.esto_plan.proofs.PlanLemmas.{add_input, add_filter}
use Rattle.esto_plan.proofs.planning.add_column.Goals as goal

pub returns-then-item-clause-below : goal.returns-then-item-clause-below
returns-then-item-clause-below c = on_ok_weaker c.push_link.result
    (λ made below. add_input c.args.codes.now c.push_link.new.codes c.args.access.now c.args.bound.now c.args.terms.now c.args.column c.args.get.now
    c.push_link.new.links c.push_link.ensures.grown below c.if-item.ensures c.requires.known made)
    c.push_link.ensures.made

pub returns-else-item-clause-below : goal.returns-else-item-clause-below
returns-else-item-clause-below c = on_ok_weaker c.push_link-else-item.result
    (λ made below. add_filter c.args.codes.now c.push_link-else-item.new.codes c.args.access.now c.args.bound.now c.args.terms.now c.args.column c.args.get.now
    c.push_link-else-item.new.links c.push_link-else-item.ensures.grown below c.if-item.ensures made)
    c.push_link-else-item.ensures.made
