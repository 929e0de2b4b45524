use Rattle.std.proofs.Common.{refl}
use Rattle.esto_bits.proofs.LaneLemmas.{block_is}
use Rattle.esto_bits.proofs.lanes.block_within.Goals as goal

pub returns : goal.returns
returns c = block_is c.args.small.now c.args.large.now c.args.at c.requires.small c.requires.large _ refl
