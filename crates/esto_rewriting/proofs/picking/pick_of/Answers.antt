use Rattle.std.proofs.Common.{refl}
use Rattle.esto_course.specs.Course.{judges}
use Rattle.esto_status.specs.Answers.{IsWant}
use Rattle.esto_rewriting.proofs.PickingLemmas.{handed_holds, only_wants}
use Rattle.esto_rewriting.proofs.picking.pick_of.Goals as goal

pub returns-in_err-place-clause-want : goal.returns-in_err-place-clause-want
returns-in_err-place-clause-want c =
    handed_holds IsWant _ c.from_residual.result c.from_residual.ensures.1
    (only_wants c.args.listing.now c.args.number _ c.requires c.in_err-place.ensures)

pub item-item-requires : goal.item-item-requires
unfolding judges
item-item-requires c = c.chosen_items_are_listed.ensures.place c.args.listing.now c.args.number c.in_ok-place.place c.in_ok-place.ensures

pub returns-clause-pick : goal.returns-clause-pick
unfolding judges
returns-clause-pick c = (refl, (c.item-item.result.now, (c.in_ok-place.place, c.in_ok-place.ensures, c.item-item.ensures), refl, refl))
