use Rattle.std.proofs.Common.{ℕ, ◌<◌, get_or, take}
use Rattle.esto_views.specs.Fragments.{patterns_of}
use Rattle.esto_views.specs.Plans.{plan_query}
use Rattle.esto_access.specs.Runs.{CanFollow}
use Rattle.esto_access.proofs.order.each_follows.Given as goal

abbrev pub invariant-places : goal.invariant-places
invariant-places l = (k : ℕ) → k < l.place → CanFollow (patterns_of l.fragments) (plan_query l.plan).body l.set (take k l.order) (get_or l.order k 0)
