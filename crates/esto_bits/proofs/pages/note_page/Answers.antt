use Rattle.std.proofs.Common.{List, ◌+◌, ◌*◌, ◌≤◌, arith, subst, sym}
use Rattle.std.proofs.Math.Nat.{mul-le-mul_right}
use Rattle.esto_bits.specs.Pages.{ArePagesOf}
use Rattle.esto_bits.specs.declared.pages.Page.{Page}
use Rattle.esto_bits.proofs.PageLemmas.{page_more}
use Rattle.esto_bits.proofs.pages.note_page.Goals as goal

pub page_of-requires-clause-room : goal.page_of-requires-clause-room
page_of-requires-clause-room c =
    let most : (c.len-place.result * 64 + 64) * c.args.width ≤ c.args.many * c.args.width =
    mul-le-mul_right c.args.width (omega (arith, c.if-many-place-lt-PAGE.false, c.len-place.ensures, c.requires.within)) in
    omega (arith, most, c.requires.many)

pub returns-in-Ok-clause-pages : goal.returns-in-Ok-clause-pages
returns-in-Ok-clause-pages c =
    let most : (c.len-place.result * 64 + 64) * c.args.width ≤ c.args.many * c.args.width =
    mul-le-mul_right c.args.width (omega (arith, c.if-many-place-lt-PAGE.false, c.len-place.ensures, c.requires.within)) in
    subst (ArePagesOf c.args.rows.now c.args.width) (sym {A = List Page} c.in-Ok.ensures.items)
    (page_more c.args.rows.now c.args.width c.len-place.result c.args.pages.now.items c.page_of.result (omega (arith, c.len-place.ensures)) c.requires.pages
    c.page_of.ensures (omega (arith, most, c.requires.many)))
