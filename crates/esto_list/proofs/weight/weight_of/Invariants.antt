use Rattle.std.proofs.Common.{◌≡◌, ◌+◌, ◌*◌, ◌≤◌, drop}
use Rattle.esto_views.specs.Fragments.{weights_of}
use Rattle.esto_views.specs.Plans.{plan_query}
use Rattle.esto_list.specs.Items.{set_weight}
use Rattle.esto_list.proofs.weight.weight_of.Given as goal

-- the weight so far and that of the atoms still to come is the whole
abbrev pub invariant-atoms : goal.invariant-atoms
invariant-atoms l = record {
  few : l.weight ≤ l.number * 18446744073709551615;
  added : l.weight + set_weight (weights_of l.fragments) (drop l.number (plan_query l.plan).body) (drop l.number l.set)
      ≡ set_weight (weights_of l.fragments) (plan_query l.plan).body l.set;
}
