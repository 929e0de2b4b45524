use Rattle.std.proofs.Common.{◌∙◌, sym, ap, length}
use Rattle.esto_bits.proofs.WordLemmas.{same_length, within_says}
use Rattle.esto_bits.proofs.row_bits.RowBits.within.Goals as goal

pub row_within-requires : goal.row_within-requires
row_within-requires c =
    ap length c.as_slice.ensures.value
    ∙ same_length _ _ _ (record { below = c.self.invariant; is = c.self.view_is }) _ _ _ (record { below = c.other.invariant; is = c.other.view_is }) c.requires
    ∙ sym (ap length c.as_slice-2.ensures.value)

pub returns : goal.returns
returns c =
    within_says _ _ _ (record { below = c.self.invariant; is = c.self.view_is }) _ _ _ (record { below = c.other.invariant; is = c.other.view_is }) c.requires
    c.as_slice.result.now c.as_slice-2.result.now c.as_slice.ensures.value c.as_slice-2.ensures.value c.row_within.ensures.fits c.row_within.result
    c.row_within.ensures.within
