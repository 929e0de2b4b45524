use Rattle.std.proofs.Common.{◌≢◌, [], sym, subst}
use Rattle.esto_views.specs.Fragments.{views_of}
use Rattle.esto_universal.specs.Stated.{IsStatedPlan}
use Rattle.esto_universal.proofs.planning.plan_of_end.Goals as goal

pub stated_plan-requires : goal.stated_plan-requires
stated_plan-requires c = subst (λ it. it ≢ []) (sym c.head-head.ensures) c.requires

pub returns : goal.returns
returns c = subst (λ end. IsStatedPlan c.args.query.now.names (views_of c.args.fragments.now) end c.in_ok-plan.plan)
    (λ i. record { head = c.head-head.ensures i; body = c.facts-facts.ensures i }) c.in_ok-plan.ensures
