use Rattle.std.proofs.Common.{◌∙◌, refl, sym}
use Rattle.std.proofs.lemmas.Bool.{false≢true}
use Rattle.esto_bits.specs.Pages.{HasWithin}
use Rattle.esto_bits.proofs.PageLemmas.{none_within, page_found, page_passed, rest_says, rest_whole, room_of_page}
use Rattle.esto_bits.proofs.pages.any_within_by.Goals as goal

pub page_has_within-requires-clause-room : goal.page_has_within-requires-clause-room
page_has_within-requires-clause-room c =
    room_of_page c.args.rows.now c.args.width c.requires.width (HasWithin c.args.row.now) c.pages.place _ c.pages-test.true c.requires.pages.whole

pub pages-preserved-then-page-row : goal.pages-preserved-then-page-row
pages-preserved-then-page-row c = page_passed c.args.rows.now c.args.width c.requires.width (HasWithin c.args.row.now) c.pages.place
    (none_within c.args.rows.now c.args.width c.requires.width c.args.row.now c.pages.place _
    (c.requires.pages.each c.pages.place (record { all = 0; any = 0 }) c.pages-test.true) c.if-page-row.true) c.pages.invariant

pub returns-then-page_has_within-clause-within : goal.returns-then-page_has_within-clause-within
returns-then-page_has_within-clause-within c = (
  λ _. page_found c.args.rows.now c.args.width c.requires.width (HasWithin c.args.row.now) c.pages.place _ c.pages-test.true c.requires.pages.whole
      (c.page_has_within.ensures.0 c.if-page_has_within.true),
  λ _. refl,
)

pub pages-preserved : goal.pages-preserved
pages-preserved c = page_passed c.args.rows.now c.args.width c.requires.width (HasWithin c.args.row.now) c.pages.place
    (λ some. false≢true (sym c.if-page_has_within.false ∙ c.page_has_within.ensures.1 some)) c.pages.invariant

pub any_within-requires-clause-whole : goal.any_within-requires-clause-whole
any_within-requires-clause-whole c = rest_whole c.args.rows.now c.args.width c.requires.width (HasWithin c.args.row.now) _ c.behind.result.now
    c.requires.pages.whole c.requires.whole c.behind.ensures

pub returns-clause-within : goal.returns-clause-within
returns-clause-within c = rest_says c.args.rows.now c.args.width c.requires.width (HasWithin c.args.row.now) _ c.pages.place c.behind.result.now
    c.pages-test.false c.requires.pages.whole c.pages.invariant c.behind.ensures c.any_within.result c.any_within.ensures.within
