use Rattle.std.proofs.Common.{◌-◌, arith, sym, subst}
use Rattle.esto_semantics.specs.Maps.{AreFlat}
use Rattle.esto_core.proofs.LeftLemmas.{IsGone, gone-start, gone-end, gone-there_before, gone-step, dropped-flat}
use Rattle.esto_core.proofs.left.left_of.Goals as goal

pub places-init : goal.places-init
places-init c = record {
  within = omega (arith, c.len-place.ensures);
  flat = subst AreFlat (sym c.in_ok-left.ensures) c.requires.flat;
  gone = subst (λ place. IsGone c.args.head.now c.args.atoms.now place c.in_ok-left.left) (sym c.len-place.ensures)
      (gone-start c.args.head.now c.args.atoms.now c.in_ok-left.left c.in_ok-left.ensures);
}

pub drop_at-requires-clause-there : goal.drop_at-requires-clause-there
drop_at-requires-clause-there c =
    gone-there_before c.args.head.now c.args.atoms.now c.places.place (omega (arith, c.places-test.true)) c.places.invariant.within c.places.left
    c.places.invariant.gone

pub places-preserved : goal.places-preserved
places-preserved c = record {
  within = omega (arith, c.places.invariant.within);
  flat = dropped-flat c.args.head.now (c.places.place - 1) c.places.left c.drop_at.new.left
      (gone-there_before c.args.head.now c.args.atoms.now c.places.place (omega (arith, c.places-test.true)) c.places.invariant.within c.places.left
      c.places.invariant.gone)
      c.in_ok-drop_at.ensures c.places.invariant.flat;
  gone = gone-step c.args.head.now c.args.atoms.now c.places.place (omega (arith, c.places-test.true)) c.places.invariant.within c.places.left
      c.places.invariant.gone c.drop_at.new.left c.in_ok-drop_at.ensures;
}

pub returns : goal.returns
returns c = gone-end c.args.head.now c.args.atoms.now c.places.place c.places.left c.places-test.false c.places.invariant.gone
