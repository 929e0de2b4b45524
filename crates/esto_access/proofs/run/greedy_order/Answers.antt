use Rattle.std.proofs.Common.{sym, subst}
use Rattle.esto_views.specs.Fragments.{patterns_of}
use Rattle.esto_views.specs.Plans.{plan_query}
use Rattle.esto_access.proofs.RunLemmas.{RunsSoFar, run_starts, run_grows, room_shrinks}
use Rattle.esto_access.proofs.run.greedy_order.Goals as goal

pub turns-init : goal.turns-init
turns-init c =
    subst (RunsSoFar (patterns_of c.args.fragments.now) (plan_query c.args.plan.now).body c.args.set.now) (sym c.new-order.ensures)
    (run_starts (patterns_of c.args.fragments.now) (plan_query c.args.plan.now).body c.args.set.now)

pub turns-smaller : goal.turns-smaller
turns-smaller c =
    room_shrinks (patterns_of c.args.fragments.now) (plan_query c.args.plan.now).body c.args.set.now c.turns.order c.push.new.self c.items.result.now
    c.items.ensures c.in-Some.number c.in-Some.ensures
    c.in_ok-push.ensures.ok c.turns.invariant

pub turns-preserved : goal.turns-preserved
turns-preserved c =
    run_grows (patterns_of c.args.fragments.now) (plan_query c.args.plan.now).body c.args.set.now c.turns.order c.push.new.self c.items.result.now
    c.items.ensures c.in-Some.number c.in-Some.ensures
    c.in_ok-push.ensures.ok c.turns.invariant
