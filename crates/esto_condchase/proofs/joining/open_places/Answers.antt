use Rattle.std.proofs.Common.{sym, subst, ◌∙◌}
use Rattle.std.proofs.lemmas.List.{get_or_default}
use Rattle.esto_condchase.specs.Rounds.{AreOpen}
use Rattle.esto_condchase.proofs.JoinLemmas.{open_none, open_kept, open_dropped, open_all}
use Rattle.esto_condchase.proofs.joining.open_places.Goals.{then-not-is_closed+in_ok-push, else-not-is_closed}
use Rattle.esto_condchase.proofs.joining.open_places.Goals as goal

pub places-init : goal.places-init
places-init c = open_none c.args.entries.now c.args.sets.now.sets c.new-open.result c.new-open.ensures

pub places-preserved : goal.places-preserved
places-preserved c = elim c.if-not-is_closed.branch [
  | then-not-is_closed+in_ok-push w ↦
      open_kept c.args.entries.now c.args.sets.now.sets c.args.places.now c.places.open c.places.place-index _ c.places-test.true
      (get_or_default c.args.places.now c.places.place-index _ _ c.places-test.true) c.places.invariant c.if-not-is_closed.open
      (w.open-is ∙ w.in_ok-push.ensures.ok)
  | else-not-is_closed w ↦ subst (AreOpen c.args.entries.now c.args.sets.now.sets _) (sym w.open-is)
      (open_dropped c.args.entries.now c.args.sets.now.sets c.args.places.now c.places.open c.places.place-index _ c.places-test.true
      (get_or_default c.args.places.now c.places.place-index _ _ c.places-test.true) c.places.invariant
      (c.is_closed.ensures w.if-not-is_closed.false))
]

pub returns : goal.returns
returns c = open_all c.args.entries.now c.args.sets.now.sets c.args.places.now c.places.open c.places.place-index c.places-test.false c.places.invariant
