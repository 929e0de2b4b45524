use Rattle.std.proofs.Common.{subst, sym, ap, ◌∙◌}
use Rattle.esto_semantics.specs.Access.{IsStatedOrder}
use Rattle.esto_semantics.specs.Listed.{chosen, IsWeight}
use Rattle.esto_views.specs.Fragments.{patterns_of, weights_of}
use Rattle.esto_views.specs.Plans.{plan_query}
use Rattle.esto_list.specs.Items.{set_weight}
use Rattle.esto_list.proofs.listing.item_of.Goals as goal

pub returns-clause-order : goal.returns-clause-order
returns-clause-order c =
    subst (λ set. IsStatedOrder (patterns_of c.args.fragments.now) (plan_query c.args.plan.now).body set c.in-Some.order) (sym c.in_ok-set.ensures)
    (rw c.in-Some.is at c.in_ok-order.ensures)

pub returns-clause-sum : goal.returns-clause-sum
returns-clause-sum c =
    c.weight_of-weight.ensures ∙ ap (set_weight (weights_of c.args.fragments.now) (plan_query c.args.plan.now).body) (sym c.in_ok-set.ensures)

pub returns-clause-weight : goal.returns-clause-weight
returns-clause-weight c = λ distinct.
    let weights = weights_of c.args.fragments.now in
    let atoms = (plan_query c.args.plan.now).body in
    subst (IsWeight weights (chosen c.in_ok-set.set atoms)) (sym (c.weight_of-weight.ensures ∙ ap (set_weight weights atoms) (sym c.in_ok-set.ensures)))
    (c.weights_exist.ensures.sum weights atoms c.in_ok-set.set distinct)
