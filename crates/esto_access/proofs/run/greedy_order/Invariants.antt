use Rattle.std.proofs.Common.{◌-◌, length}
use Rattle.esto_views.specs.Fragments.{patterns_of}
use Rattle.esto_views.specs.Plans.{plan_query}
use Rattle.esto_access.proofs.RunLemmas.{RunsSoFar}
use Rattle.esto_access.proofs.run.greedy_order.Given as goal

abbrev pub invariant-turns : goal.invariant-turns
invariant-turns l = RunsSoFar (patterns_of l.fragments) (plan_query l.plan).body l.set l.order

abbrev pub decreases-turns : goal.decreases-turns
decreases-turns l = length (plan_query l.plan).body - length l.order
