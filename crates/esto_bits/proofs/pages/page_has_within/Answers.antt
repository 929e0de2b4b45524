use Rattle.std.proofs.Common.{refl}
use Rattle.esto_bits.specs.Pages.{HasWithin}
use Rattle.esto_bits.proofs.PageLemmas.{page_says, page_whole}
use Rattle.esto_bits.proofs.pages.page_has_within.Goals as goal

pub any_within-requires-clause-whole : goal.any_within-requires-clause-whole
any_within-requires-clause-whole c =
    page_whole c.args.rows.now c.args.width c.requires.width (HasWithin c.args.row.now) c.args.place _ c.part.result.now c.requires.room refl c.part.ensures

pub returns : goal.returns
returns c =
    page_says c.args.rows.now c.args.width c.requires.width (HasWithin c.args.row.now) c.args.place _ c.part.result.now c.requires.room refl c.part.ensures
    c.any_within.result c.any_within.ensures.within
