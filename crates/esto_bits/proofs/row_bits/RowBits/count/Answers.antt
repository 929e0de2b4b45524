use Rattle.esto_bits.proofs.WordLemmas.{count_is}
use Rattle.esto_bits.proofs.row_bits.RowBits.count.Goals as goal

pub returns : goal.returns
returns c = count_is _ _ _ (record { below = c.self.invariant; is = c.self.view_is })
