use Rattle.std.proofs.Common.{◌≡◌, ◌≢◌, take}
use Rattle.std.specs.Prelude.{AllPairs}
use Rattle.esto_list.specs.Items.{HaveOrders, HaveSums, HaveWeights, sets_of}
use Rattle.esto_views.specs.Plans.{plan_query}
use Rattle.esto_list.proofs.listing.items_of.Given as goal

abbrev pub invariant-sets : goal.invariant-sets
invariant-sets l = record {
  sets : sets_of l.items ≡ take l.set-index l.sets;
  orders : HaveOrders l.plan l.fragments l.items;
  sums : HaveSums l.plan l.fragments l.items;
  weights : AllPairs ◌≢◌ (plan_query l.plan).body → HaveWeights l.plan l.fragments l.items;
}
