use Rattle.esto_views.specs.Fragments.{patterns_of}
use Rattle.esto_views.specs.Plans.{plan_query}
use Rattle.esto_access.proofs.SupplyLemmas.{AreMadeBelow}
use Rattle.esto_access.proofs.supply.next_supplies.Given as goal

abbrev pub invariant-numbers : goal.invariant-numbers
invariant-numbers l = AreMadeBelow (patterns_of l.fragments) (plan_query l.plan).body l.supplies l.number l.next
