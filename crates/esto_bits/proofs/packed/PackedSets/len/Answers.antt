use Rattle.esto_bits.proofs.PackedLemmas.{many_is}
use Rattle.esto_bits.proofs.packed.PackedSets.len.Goals as goal

pub returns : goal.returns
returns c = many_is _ _ _ c.self.invariant.packed _ c.self.view_is
