use Rattle.esto_views.specs.Fragments.{patterns_of}
use Rattle.esto_views.specs.Plans.{plan_query}
use Rattle.esto_plan.proofs.PlanLemmas.{IsPlannedBelow}
use Rattle.esto_plan.proofs.planning.steps_of.Given as goal

abbrev pub invariant-atoms : goal.invariant-atoms
invariant-atoms l = IsPlannedBelow (patterns_of l.fragments) (plan_query l.plan).body l.number-items l.number-index l.initial.codes l.codes l.bound l.gets
