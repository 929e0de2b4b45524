use Rattle.std.proofs.Common.{arith}
use Rattle.std.proofs.lemmas.Bool.Decides.{nat_tests}
use Rattle.esto_known.proofs.TellLemmas.{two_sides}
use Rattle.esto_known.proofs.kept.places_met.Goals as goal

pub returns : goal.returns
returns c = (
  c.index-sides-0.result,
  c.index-sides-1.result,
  two_sides c.args.sides.now c.index-sides-0.result c.index-sides-1.result _ _ (let two = c.if-sides-ne2.false in grind (arith, nat_tests, two))
      c.index-sides-0.is c.index-sides-1.is,
  c.in_ok-left.ensures,
  c.in_ok-right.ensures,
)
