use Rattle.std.proofs.Common.{refl}
use Rattle.esto_bits.proofs.LaneLemmas.{around_is}
use Rattle.esto_bits.proofs.lanes.block_has_around.Goals as goal

pub returns : goal.returns
returns c = around_is c.args.words.now c.args.at c.args.word c.requires _ refl
