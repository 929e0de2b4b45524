use Rattle.esto_course.specs.Course.{judges}
use Rattle.esto_course.proofs.Steps.{at_exit}
use Rattle.esto_status.proofs.AskedSteps.{handed_asks}
use Rattle.esto_top.proofs.RunAskedLemmas.{choice_asks, chosen_asks, list_wants}
use Rattle.esto_top.proofs.RunLemmas.{choice_stops, chosen_answers}
use Rattle.esto_top.proofs.run.run_plan.Goals as goal

pub item-requires : goal.item-requires
unfolding judges
item-requires g c = c.chosen_items_are_listed.ensures.place c.in_ok-listing.listing c.args.number c.in_ok-place.place c.in_ok-place.ensures

pub run_item-requires-clause-item : goal.run_item-requires-clause-item
run_item-requires-clause-item g c =
    c.chosen_items_are_listed.ensures.item c.args.catalogue.now c.args.query.now c.args.plan.now c.in_ok-listing.listing c.in_ok-place.place c.item.result.now
    c.in_ok-listing.ensures c.item.ensures

pub returns-in_err-place-clause-answer : goal.returns-in_err-place-clause-answer
returns-in_err-place-clause-answer g c =
    at_exit _ _ c.from_residual-in_err-place.result c.from_residual-in_err-place.ensures.1
    (choice_stops (g.S.Shelf.files c.args.shelf.now) c.args.catalogue.now c.args.query.now c.args.number c.args.plan.now c.in_ok-listing.listing
    c.in_ok-listing.ensures c.in_err-place.ensures)

pub returns-clause-answer : goal.returns-clause-answer
returns-clause-answer g c =
    chosen_answers (g.S.Shelf.files c.args.shelf.now) c.args.catalogue.now c.args.query.now c.args.number c.args.plan.now c.in_ok-listing.listing
    c.in_ok-listing.ensures c.in_ok-place.place c.in_ok-place.ensures c.item.result.now c.item.ensures _ c.run_item.result c.run_item.ensures.answer

pub returns-in_err-listing-clause-asked : goal.returns-in_err-listing-clause-asked
returns-in_err-listing-clause-asked g c =
    handed_asks _ _ _ c.from_residual.ensures.1
    (list_wants (g.S.Shelf.files c.args.shelf.now) c.args.catalogue.now c.args.query.now c.args.number c.args.plan.now (g.S.Shelf.asked c.args.shelf.now))

pub returns-in_err-place-clause-asked : goal.returns-in_err-place-clause-asked
returns-in_err-place-clause-asked g c =
    handed_asks _ _ _ c.from_residual-in_err-place.ensures.1
    (choice_asks (g.S.Shelf.files c.args.shelf.now) c.args.catalogue.now c.args.query.now c.args.number c.args.plan.now c.in_ok-listing.listing
    c.in_ok-listing.ensures (g.S.Shelf.asked c.args.shelf.now) _ c.in_err-place.ensures)

pub returns-clause-asked : goal.returns-clause-asked
returns-clause-asked g c =
    chosen_asks (g.S.Shelf.files c.args.shelf.now) c.args.catalogue.now c.args.query.now c.args.number c.args.plan.now c.in_ok-listing.listing
    c.in_ok-listing.ensures c.in_ok-place.place c.in_ok-place.ensures c.item.result.now c.item.ensures c.run_item.result c.run_item.ensures.asked
