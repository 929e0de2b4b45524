use Rattle.std.proofs.Common.{◌∙◌, refl, sym}
use Rattle.std.proofs.lemmas.Bool.{false≢true}
use Rattle.esto_bits.specs.Pages.{HasAround}
use Rattle.esto_bits.proofs.PageLemmas.{none_around, page_found, page_passed, rest_says, rest_whole, room_of_page}
use Rattle.esto_bits.proofs.pages.any_around_by.Goals as goal

pub page_has_around-requires-clause-room : goal.page_has_around-requires-clause-room
page_has_around-requires-clause-room c =
    room_of_page c.args.rows.now c.args.width c.requires.width (HasAround c.args.row.now) c.pages.place _ c.pages-test.true c.requires.pages.whole

pub pages-preserved-then-row-page : goal.pages-preserved-then-row-page
pages-preserved-then-row-page c = page_passed c.args.rows.now c.args.width c.requires.width (HasAround c.args.row.now) c.pages.place
    (none_around c.args.rows.now c.args.width c.requires.width c.args.row.now c.pages.place _
    (c.requires.pages.each c.pages.place (record { all = 0; any = 0 }) c.pages-test.true) c.if-row-page.true) c.pages.invariant

pub returns-then-page_has_around-clause-around : goal.returns-then-page_has_around-clause-around
returns-then-page_has_around-clause-around c = (
  λ _. page_found c.args.rows.now c.args.width c.requires.width (HasAround c.args.row.now) c.pages.place _ c.pages-test.true c.requires.pages.whole
      (c.page_has_around.ensures.0 c.if-page_has_around.true),
  λ _. refl,
)

pub pages-preserved : goal.pages-preserved
pages-preserved c = page_passed c.args.rows.now c.args.width c.requires.width (HasAround c.args.row.now) c.pages.place
    (λ some. false≢true (sym c.if-page_has_around.false ∙ c.page_has_around.ensures.1 some)) c.pages.invariant

pub any_around-requires-clause-whole : goal.any_around-requires-clause-whole
any_around-requires-clause-whole c = rest_whole c.args.rows.now c.args.width c.requires.width (HasAround c.args.row.now) _ c.behind.result.now
    c.requires.pages.whole c.requires.whole c.behind.ensures

pub returns-clause-around : goal.returns-clause-around
returns-clause-around c = rest_says c.args.rows.now c.args.width c.requires.width (HasAround c.args.row.now) _ c.pages.place c.behind.result.now
    c.pages-test.false c.requires.pages.whole c.pages.invariant c.behind.ensures c.any_around.result c.any_around.ensures.around
