use Rattle.std.proofs.Common.{◌∙◌}
use Rattle.esto_instance.proofs.FreshLemmas.{copied, passed}
use Rattle.esto_instance.proofs.fresh.copies_of.Goals as goal
use Rattle.esto_instance.proofs.fresh.copies_of.Goals.{then-item+in_ok-copy+in_ok-push, else-item}

pub facts-preserved : goal.facts-preserved
facts-preserved c = elim c.if-item.branch [
  | then-item+in_ok-copy+in_ok-push w ↦
      copied c.args.marks.now c.args.facts.now c.facts.copies c.facts.place c.item.result c.index-facts-place.result c.item.ensures
      c.facts-test.true c.index-facts-place.is c.facts.invariant c.if-item.copies w.in_ok-copy.copy w.if-item.true w.in_ok-copy.ensures
      (w.copies-is ∙ w.in_ok-push.ensures.ok)
  | else-item w ↦
      passed c.args.marks.now c.args.facts.now c.facts.copies c.facts.place c.item.result c.index-facts-place.result c.item.ensures
      c.facts-test.true c.index-facts-place.is c.facts.invariant c.if-item.copies w.if-item.false w.copies-is
]
