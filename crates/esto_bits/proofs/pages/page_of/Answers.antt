use Rattle.std.proofs.Common.{◌*◌, arith, refl}
use Rattle.esto_bits.proofs.PageLemmas.{page_turn}
use Rattle.esto_bits.proofs.pages.page_of.Goals as goal

pub sets-preserved : goal.sets-preserved
sets-preserved c = page_turn c.args.rows.now c.args.width (c.args.place * 64) c.sets.at c.sets.all c.sets.any _ refl c.sets.invariant

pub returns : goal.returns
returns c group above below = c.sets.invariant group above (omega (arith, below, c.sets-test.false))
