use Rattle.esto_bits.proofs.CountLemmas.{bits_more}
use Rattle.esto_bits.proofs.words.bits_in.Goals as goal

pub words-preserved : goal.words-preserved
words-preserved c =
    bits_more c.args.words.now c.words.word-index c.words.bits c.saturating_add-bits.result 18446744073709551615 c.words-test.true c.words.invariant
    c.saturating_add-bits.ensures
