use Rattle.std.proofs.Common.{sym, subst, ◌∙◌}
use Rattle.std.proofs.lemmas.List.{get_or_default}
use Rattle.esto_known.specs.Groups.{AreLeft}
use Rattle.esto_known.proofs.GroupLemmas.{left_none, left_kept, left_dropped, left_all}
use Rattle.esto_known.proofs.group.left_of.Goals.{then-not-is_covered_at+in_ok-push, else-not-is_covered_at}
use Rattle.esto_known.proofs.group.left_of.Goals as goal

pub places-init : goal.places-init
places-init c = left_none c.args.entries.now c.args.product.now c.new-left.result c.new-left.ensures

pub places-preserved : goal.places-preserved
places-preserved c = elim c.if-not-is_covered_at.branch [
  | then-not-is_covered_at+in_ok-push w ↦
      left_kept c.args.entries.now c.args.product.now c.args.places.now c.places.left c.places.place-index _ c.places-test.true
      (get_or_default c.args.places.now c.places.place-index _ _ c.places-test.true) c.places.invariant c.if-not-is_covered_at.left
      (w.left-is ∙ w.in_ok-push.ensures.ok)
  | else-not-is_covered_at w ↦ subst (AreLeft c.args.entries.now c.args.product.now _) (sym w.left-is)
      (left_dropped c.args.entries.now c.args.product.now c.args.places.now c.places.left c.places.place-index _ c.places-test.true
      (get_or_default c.args.places.now c.places.place-index _ _ c.places-test.true) c.places.invariant
      (c.is_covered_at.ensures w.if-not-is_covered_at.false))
]

pub returns : goal.returns
returns c = left_all c.args.entries.now c.args.product.now c.args.places.now c.places.left c.places.place-index c.places-test.false c.places.invariant
