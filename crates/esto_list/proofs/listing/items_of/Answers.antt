use Rattle.std.proofs.Common.{◌≡◌, refl, sym, ap, subst}
use Rattle.std.proofs.lemmas.List.Elements.{All-nil, All-push}
use Rattle.esto_semantics.specs.Access.{IsStatedOrder}
use Rattle.esto_semantics.specs.Listed.{chosen, IsWeight}
use Rattle.esto_views.specs.Fragments.{patterns_of, weights_of}
use Rattle.esto_views.specs.Plans.{plan_query}
use Rattle.esto_list.specs.declared.listing.Listed.{Listed}
use Rattle.esto_list.specs.Items.{HaveOrders, HaveSums, HaveWeights, set_weight, sets_of}
use Rattle.esto_list.proofs.ItemLemmas.{set_there, sets_more, sets_all}
use Rattle.esto_list.proofs.listing.items_of.Goals as goal

pub item_of-requires : goal.item_of-requires
item_of-requires c =
    c.requires c.set-item.result (set_there c.args.sets.now c.args.sets.now c.sets.set-index c.set-item.result refl c.sets-test.true c.set-item.is)

pub sets-init : goal.sets-init
sets-init c = record {
  sets = ap sets_of c.new-items.ensures;
  orders = subst (HaveOrders c.args.plan.now c.args.fragments.now) (sym c.new-items.ensures)
      (All-nil (λ (item : Listed). IsStatedOrder (patterns_of c.args.fragments.now) (plan_query c.args.plan.now).body item.set item.order));
  sums = subst (HaveSums c.args.plan.now c.args.fragments.now) (sym c.new-items.ensures)
      (All-nil (λ (item : Listed). item.weight ≡ set_weight (weights_of c.args.fragments.now) (plan_query c.args.plan.now).body item.set));
  weights = λ distinct. subst (HaveWeights c.args.plan.now c.args.fragments.now) (sym c.new-items.ensures)
      (All-nil (λ (item : Listed). IsWeight (weights_of c.args.fragments.now) (chosen item.set (plan_query c.args.plan.now).body) item.weight));
}

pub sets-preserved : goal.sets-preserved
sets-preserved c = record {
  sets = sets_more c.sets.items c.push.new.self c.in_ok-item.item c.args.sets.now c.sets.set-index c.set-item.result c.sets-test.true
      c.set-item.is c.in_ok-item.ensures.set c.in_ok-push.ensures.ok
      c.sets.invariant.sets;
  orders = subst (HaveOrders c.args.plan.now c.args.fragments.now) (sym c.in_ok-push.ensures.ok)
      (All-push (λ (item : Listed). IsStatedOrder (patterns_of c.args.fragments.now)
      (plan_query c.args.plan.now).body item.set item.order) c.sets.items c.in_ok-item.item c.sets.invariant.orders c.in_ok-item.ensures.order);
  sums = subst (HaveSums c.args.plan.now c.args.fragments.now) (sym c.in_ok-push.ensures.ok)
      (All-push (λ (item : Listed). item.weight ≡ set_weight (weights_of c.args.fragments.now)
      (plan_query c.args.plan.now).body item.set) c.sets.items c.in_ok-item.item c.sets.invariant.sums c.in_ok-item.ensures.sum);
  weights = λ distinct. subst (HaveWeights c.args.plan.now c.args.fragments.now) (sym c.in_ok-push.ensures.ok)
      (All-push (λ (item : Listed). IsWeight (weights_of c.args.fragments.now)
      (chosen item.set (plan_query c.args.plan.now).body) item.weight) c.sets.items c.in_ok-item.item (c.sets.invariant.weights distinct)
      (c.in_ok-item.ensures.weight distinct));
}

pub returns-clause-sets : goal.returns-clause-sets
returns-clause-sets c = sets_all c.sets.items c.args.sets.now c.args.sets.now c.sets.set-index refl c.sets-test.false c.sets.invariant.sets
