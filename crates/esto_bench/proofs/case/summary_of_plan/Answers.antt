use Rattle.esto_bench.proofs.PlanLemmas.{item_of_case, place_there, summed_up}
use Rattle.esto_bench.proofs.case.summary_of_plan.Goals as goal

pub item-pick-requires : goal.item-pick-requires
item-pick-requires c = place_there c.args.size c.args.plan.now c.in_ok-listing.listing c.in_ok-listing.ensures c.pick_of-place.result c.pick_of-place.ensures

pub count_rows-requires-clause-item : goal.count_rows-requires-clause-item
count_rows-requires-clause-item c =
    item_of_case c.args.size c.args.plan.now c.in_ok-listing.listing c.in_ok-listing.ensures c.pick_of-place.result c.item-pick.result.now c.item-pick.ensures

pub returns : goal.returns
returns c =
    summed_up c.args.size c.args.plan.now c.in_ok-listing.listing c.in_ok-listing.ensures c.requires.planned c.pick_of-place.result c.pick_of-place.ensures
    c.item-pick.result.now c.item-pick.ensures c.in_ok-rows.rows c.in_ok-rows.ensures _
    (λ i. record { plan = c.len.ensures i; rewritings = c.len-2.ensures i; weight = c.item-pick.result.now.weight; rows = c.in_ok-rows.rows })
