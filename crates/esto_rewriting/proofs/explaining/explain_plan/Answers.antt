use Rattle.esto_course.specs.Course.{judges}
use Rattle.esto_course.proofs.Steps.{at_exit}
use Rattle.std.proofs.Common.{Some}
use Rattle.esto_rewriting.proofs.ExplainLemmas.{choice_stops, chosen_goes}
use Rattle.esto_rewriting.proofs.explaining.explain_plan.Goals as goal

pub item-item-requires : goal.item-item-requires
unfolding judges
item-item-requires c = c.chosen_items_are_listed.ensures.place c.in_ok-made.made.listing (Some c.args.number) c.in_ok-place.place c.in_ok-place.ensures

pub certificate_of-requires-clause-item : goal.certificate_of-requires-clause-item
certificate_of-requires-clause-item c =
    c.chosen_items_are_listed.ensures.item c.args.catalogue.now c.args.query.now c.args.plan.now c.in_ok-made.made.listing c.in_ok-place.place
    c.item-item.result.now c.in_ok-made.ensures.list c.item-item.ensures

pub returns-in_err-place : goal.returns-in_err-place
returns-in_err-place c =
    at_exit _ _ c.from_residual-in_err-place.result c.from_residual-in_err-place.ensures.1
    (choice_stops c.args.catalogue.now c.args.query.now c.args.number c.args.plan.now c.in_ok-made.made.listing
    c.in_ok-made.ensures.list c.in_err-place.ensures)

pub returns : goal.returns
returns c =
    chosen_goes c.args.catalogue.now c.args.query.now c.args.number c.args.plan.now c.in_ok-made.made.listing c.in_ok-made.ensures.list c.in_ok-place.place
    c.in_ok-place.ensures c.item-item.result.now c.item-item.ensures c.in_ok-text.text c.in_ok-text.ensures
