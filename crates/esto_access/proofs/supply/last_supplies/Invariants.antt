use Rattle.esto_views.specs.Fragments.{patterns_of}
use Rattle.esto_views.specs.Plans.{plan_query}
use Rattle.esto_access.proofs.SupplyLemmas.{AreAfter}
use Rattle.esto_access.proofs.supply.last_supplies.Given as goal

abbrev pub invariant-rounds : goal.invariant-rounds
invariant-rounds l = AreAfter (patterns_of l.fragments) (plan_query l.plan).body l._round l.supplies
