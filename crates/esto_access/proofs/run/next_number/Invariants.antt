use Rattle.std.proofs.Common.{ℕ, ◌<◌}
use Rattle.esto_views.specs.Fragments.{patterns_of}
use Rattle.esto_views.specs.Plans.{plan_query}
use Rattle.esto_access.specs.Runs.{CanFollow}
use Rattle.esto_access.proofs.run.next_number.Given as goal

abbrev pub invariant-numbers : goal.invariant-numbers
invariant-numbers l = (lesser : ℕ) → lesser < l.number → ¬ (CanFollow (patterns_of l.fragments) (plan_query l.plan).body l.set l.earlier lesser)
