use Rattle.esto_bits.specs.Words.{IsWordAround}
use Rattle.esto_bits.proofs.LaneLemmas.{none_from}
use Rattle.esto_bits.proofs.lanes.rest_has_around.Goals as goal

pub returns : goal.returns
returns c = none_from c.args.words.now c.args.from c.words.place (IsWordAround c.args.words.now c.args.word) c.words-test.false c.words.invariant
