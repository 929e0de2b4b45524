use Rattle.std.proofs.Common.{◌∙◌, subst, sym, length, arith}
use Rattle.std.proofs.lemmas.List.{length-map}
use Rattle.esto_views.specs.Fragments.{patterns_of}
use Rattle.esto_views.specs.Plans.{fact_of, plan_query}
use Rattle.esto_access.proofs.SupplyLemmas.{AreMadeBelow, made_grows, made_supplies, made_round}
use Rattle.esto_access.proofs.supply.next_supplies.Goals as goal

pub numbers-preserved : goal.numbers-preserved
numbers-preserved c =
    made_grows (patterns_of c.args.fragments.now) (plan_query c.args.plan.now).body c.args.supplies.now c.numbers.number c.numbers.next c.push.new.self
    c.in_ok-products.products c.in_ok-push.ensures.ok
    (record {
      count = c.in_ok-products.ensures.count ∙ sym (length-map c.args.plan.now.atoms fact_of);
      over = c.in_ok-products.ensures.kept.0;
      antichain = c.in_ok-products.ensures.kept.1;
      covers = c.in_ok-products.ensures.covers;
    }) c.numbers.invariant

all_made : (c : goal.After-numbers)
    → AreMadeBelow (patterns_of c.args.fragments.now) (plan_query c.args.plan.now).body c.args.supplies.now (length (plan_query c.args.plan.now).body)
    c.numbers.next
all_made c =
    let same = length-map c.args.plan.now.atoms fact_of in
    subst (λ count. AreMadeBelow (patterns_of c.args.fragments.now) (plan_query c.args.plan.now).body c.args.supplies.now count c.numbers.next)
    (omega (arith, same, c.numbers-test.false, c.len-number-end.ensures, c.numbers.auto.number-end)) c.numbers.invariant

pub returns-clause-supplies : goal.returns-clause-supplies
returns-clause-supplies c = made_supplies (patterns_of c.args.fragments.now) (plan_query c.args.plan.now).body c.args.supplies.now c.numbers.next (all_made c)

pub returns-clause-round : goal.returns-clause-round
returns-clause-round c = made_round (patterns_of c.args.fragments.now) (plan_query c.args.plan.now).body c.args.supplies.now c.numbers.next (all_made c)
