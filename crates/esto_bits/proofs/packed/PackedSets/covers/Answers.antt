use Rattle.esto_bits.proofs.PackedLemmas.{covers_here, one_row, some_word, whole_rows}
use Rattle.esto_bits.proofs.PageLemmas.{pages_here}
use Rattle.esto_bits.proofs.packed.PackedSets.covers.Goals as goal

pub any_within_by-requires-clause-width : goal.any_within_by-requires-clause-width
any_within_by-requires-clause-width c =
    some_word _ _ _ c.self.invariant.packed _ c.self.view_is _ c.requires _ c.as_slice.ensures.value _ c.words_for.ensures

pub any_within_by-requires-clause-row : goal.any_within_by-requires-clause-row
any_within_by-requires-clause-row c =
    one_row _ _ _ c.self.invariant.packed _ c.self.view_is _ c.requires _ c.as_slice.ensures.value _ c.words_for.ensures

pub any_within_by-requires-clause-whole : goal.any_within_by-requires-clause-whole
any_within_by-requires-clause-whole c =
    whole_rows _ _ _ c.self.invariant.packed _ c.self.view_is _ c.requires _ c.as_slice.ensures.value _ c.words_for.ensures

pub returns : goal.returns
returns c =
    covers_here _ _ _ c.self.invariant.packed _ c.self.view_is _ c.requires _ c.as_slice.ensures.value _ c.words_for.ensures c.any_within_by.ensures.fits
    c.any_within_by.result c.any_within_by.ensures.within

pub any_within_by-requires-clause-pages : goal.any_within_by-requires-clause-pages
any_within_by-requires-clause-pages c = pages_here c.as_slice.ensures.value c.words_for.ensures c.as_slice-2.ensures.value c.self.invariant.noted
