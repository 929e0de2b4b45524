use Rattle.std.proofs.Common.{◌∙◌, arith, refl, sym}
use Rattle.std.proofs.lemmas.Bool.{false≢true}
use Rattle.esto_bits.proofs.FamilyLemmas.{covers_each, covers_next, covers_there}
use Rattle.esto_bits.proofs.products.Products.covers_all.Goals as goal

pub returns-then-not-covers_one : goal.returns-then-not-covers_one
returns-then-not-covers_one c = (
  λ never. absurd (false≢true never),
  λ all. absurd (false≢true (sym c.if-not-covers_one.true
      ∙ covers_there c.args.self.now.sets c.args.others.now.sets c.sets.at (omega (arith, c.sets-test.true, c.len-at-end.ensures)) c.covers_one.result
      c.covers_one.ensures all)),
)

pub sets-preserved : goal.sets-preserved
sets-preserved c =
    covers_next c.args.self.now.sets c.args.others.now.sets c.sets.at c.covers_one.result c.covers_one.ensures c.if-not-covers_one.false c.sets.invariant

pub returns : goal.returns
returns c = (
  λ _. covers_each c.args.self.now.sets c.args.others.now.sets c.sets.at (omega (arith, c.sets-test.false, c.len-at-end.ensures)) c.sets.invariant,
  λ _. refl,
)
