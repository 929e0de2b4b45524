use Rattle.esto_known.proofs.TouchLemmas.{touch_turn, touch_over}
use Rattle.esto_known.proofs.touching.touch_each.Goals as goal

pub terms-preserved : goal.terms-preserved
terms-preserved c = record {
  count = c.in_ok-touch.ensures.count;
  touch = touch_turn c.args.groups.now c.args.terms.now c.args.others.now c.args.sets.now.sets c.terms.sets.sets c.touch.new.sets.sets c.terms.place
      c.index-terms-place.result c.index-others-place.result c.requires.rows c.terms-test.true c.index-terms-place.is c.index-others-place.is
      c.terms.invariant.touch c.in_ok-touch.ensures.covers;
}

pub returns-clause-covers : goal.returns-clause-covers
returns-clause-covers c = touch_over c.args.groups.now c.args.terms.now c.args.others.now c.args.sets.now.sets c.terms.sets.sets c.terms.place c.requires.rows
    c.terms-test.false c.terms.invariant.touch
