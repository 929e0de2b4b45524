use Rattle.esto_bits.specs.Words.{IsWordWithin}
use Rattle.esto_bits.proofs.LaneLemmas.{none_from}
use Rattle.esto_bits.proofs.lanes.rest_has_within.Goals as goal

pub returns : goal.returns
returns c = none_from c.args.words.now c.args.from c.words.place (IsWordWithin c.args.words.now c.args.word) c.words-test.false c.words.invariant
