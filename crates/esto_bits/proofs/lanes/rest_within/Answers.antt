use Rattle.std.proofs.Common.{refl}
use Rattle.esto_bits.proofs.LaneLemmas.{rest_lacks}
use Rattle.esto_bits.proofs.lanes.rest_within.Goals as goal

pub returns : goal.returns
returns c = (λ _. rest_lacks c.args.small.now c.args.large.now c.args.from c.words.place c.requires c.words-test.false c.words.invariant, λ _. refl)
