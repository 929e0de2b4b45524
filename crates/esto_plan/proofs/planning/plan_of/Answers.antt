use Rattle.std.proofs.Common.{◌<◌, subst}
use Rattle.std.proofs.lemmas.List.{length-map}
use Rattle.esto_views.specs.Fragments.{patterns_of}
use Rattle.esto_views.specs.Plans.{plan_query, fact_of}
use Rattle.esto_plan.proofs.OrderLemmas.{order_named, order_can_plan, pattern_columns, fixed_in_order}
use Rattle.esto_plan.proofs.planning.plan_of.Goals as goal

pub steps_of-requires-clause-named : goal.steps_of-requires-clause-named
steps_of-requires-clause-named c = λ number inside.
    subst (λ it. number < it) (length-map c.args.plan.now.atoms fact_of)
    (order_named (patterns_of c.args.fragments.now) (plan_query c.args.plan.now) c.requires.order.0 c.args.order.now c.requires.order.1 number inside)

pub steps_of-requires-clause-can : goal.steps_of-requires-clause-can
steps_of-requires-clause-can c =
    order_can_plan (patterns_of c.args.fragments.now) (plan_query c.args.plan.now).body
    (pattern_columns c.args.plan.now c.args.fragments.now c.requires.over) c.requires.order.0 c.args.order.now c.requires.order.1

pub steps_of-requires-clause-safe : goal.steps_of-requires-clause-safe
steps_of-requires-clause-safe c = λ term inside.
    fixed_in_order (patterns_of c.args.fragments.now) (plan_query c.args.plan.now).body c.requires.order.0 c.args.order.now c.requires.order.1 term
    (c.requires.order.2 term inside)
