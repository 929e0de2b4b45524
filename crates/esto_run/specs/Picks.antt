-- Sets that are run together.
use Rattle.std.specs.Prelude.{List}
use Rattle.esto_semantics.specs.Access.{IsOrder}
use Rattle.esto_semantics.specs.Listed.{IsSafe, candidate}
use Rattle.esto_semantics.specs.Queries.{ConjunctiveQuery}
use Rattle.esto_views.specs.Fragments.{patterns_of}
use Rattle.esto_views.specs.Plans.{IsPlanOver, plan_query}
use Rattle.esto_views.specs.declared.fragments.FragmentDef.{FragmentDef}
use Rattle.esto_run.specs.declared.picks.Pick.{Pick}

-- The candidate of the pick's set.
abbrev pub candidate_of : Pick → ConjunctiveQuery
candidate_of pick = candidate (plan_query pick.plan.now) pick.set.now

-- The pick's plan is over the fragments, its set is safe, and its order is one of the set.
pub record IsRunnable (fragments : List FragmentDef) (pick : Pick) : Type 0 where
  pub over : IsPlanOver pick.plan.now fragments
  pub safe : IsSafe (plan_query pick.plan.now) pick.set.now
  pub order : IsOrder (patterns_of fragments) (plan_query pick.plan.now).body pick.set.now pick.order.now
