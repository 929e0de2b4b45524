use Rattle.std.proofs.Common.{◌<◌, ◌/◌, sym, subst}
use Rattle.esto_bits.proofs.WordLemmas.{word_within, bit_read}
use Rattle.esto_bits.proofs.row_bits.RowBits.has.Goals as goal

pub index-requires : goal.index-requires
index-requires c =
    subst (λ many. c.args.atom / 64 < many) (sym c.self.inside.words.ok.0)
    (word_within _ _ _ (record { below = c.self.invariant; is = c.self.view_is }) c.args.atom c.requires)

pub returns : goal.returns
returns c = bit_read _ _ _ (record { below = c.self.invariant; is = c.self.view_is }) c.args.atom c.index.result.now c.requires c.index.ensures
