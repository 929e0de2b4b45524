use Rattle.std.proofs.Common.{length, Some, refl, sym, ap, ◌∙◌, subst, arith}
use Rattle.std.specs.Cmp.Lexicographic.{slice_cmp}
use Rattle.std.specs.Ordering.{nat_cmp}
use Rattle.std.proofs.lemmas.Option.{same_Some, slice_get_read}
use Rattle.std.proofs.lemmas.Result.{IfOk-weaker}
use Rattle.esto_ports.specs.declared.difference.Difference.TheVariants as difference
use Rattle.esto_fill.specs.Judging.{TellsApart}
use Rattle.esto_fill.proofs.ApartLemmas.{alike_on, tells_less, tells_longer, tells_more, tells_none, tells_rest}
use Rattle.esto_fill.proofs.apart.apart_rows.Goals as goal

pub returns-then-place-held : goal.returns-then-place-held
returns-then-place-held c =
    let name = c.args.name.now in
    let own = c.args.own.now in
    let held = c.args.held.now in
    let row = c.index-own-place.result in
    let at = slice_get_read own (length own) c.rows.place row refl c.rows-test.true c.index-own-place.is in
    IfOk-weaker c.missing.result _ _ (λ outcome is.
    subst (TellsApart name own held) (sym is)
    (tells_rest name own held c.requires.own c.requires.held c.rows.place c.rows.invariant row at c.if-place-held.true)) c.missing.ensures

pub returns-in-Less : goal.returns-in-Less
returns-in-Less c =
    let name = c.args.name.now in
    let own = c.args.own.now in
    let held = c.args.held.now in
    let row = c.index-own-place.result in
    let other = c.index-held-place.result in
    let at = slice_get_read own (length own) c.rows.place row refl c.rows-test.true c.index-own-place.is in
    let there = slice_get_read held (length held) c.rows.place other refl c.if-place-held.false c.index-held-place.is in
    let order = sym (c.compare_rows.ensures ∙ ap (λ it. slice_cmp (slice_cmp nat_cmp) it c.items-in-rows.result.now) c.items.ensures
    ∙ ap (slice_cmp (slice_cmp nat_cmp) row) c.items-in-rows.ensures) ∙ c.in-Less.is in
    IfOk-weaker c.missing-in-Less.result _ _ (λ outcome is.
    subst (TellsApart name own held) (sym is)
    (tells_less name own held c.requires.own c.requires.held c.rows.place c.rows.invariant row other at there order)) c.missing-in-Less.ensures

pub returns-in-Greater : goal.returns-in-Greater
returns-in-Greater c =
    let name = c.args.name.now in
    let own = c.args.own.now in
    let held = c.args.held.now in
    let row = c.index-own-place.result in
    let other = c.index-held-place.result in
    let at = slice_get_read own (length own) c.rows.place row refl c.rows-test.true c.index-own-place.is in
    let there = slice_get_read held (length held) c.rows.place other refl c.if-place-held.false c.index-held-place.is in
    let order = sym (c.compare_rows.ensures ∙ ap (λ it. slice_cmp (slice_cmp nat_cmp) it c.items-in-rows.result.now) c.items.ensures
    ∙ ap (slice_cmp (slice_cmp nat_cmp) row) c.items-in-rows.ensures) ∙ c.in-Greater.is in
    let again = c.index-held-place-in-Greater.result in
    let same = same_Some again other
    (sym (slice_get_read held (length held) c.rows.place again refl c.if-place-held.false c.index-held-place-in-Greater.is) ∙ there) in
    IfOk-weaker c.extra.result _ _ (λ outcome is.
    subst (TellsApart name own held) (sym (is ∙ ap (λ it. Some (difference.Extra name it)) same))
    (tells_more name own held c.requires.own c.requires.held c.rows.place c.rows.invariant row other at there order)) c.extra.ensures

pub rows-preserved : goal.rows-preserved
rows-preserved c =
    let name = c.args.name.now in
    let own = c.args.own.now in
    let held = c.args.held.now in
    let row = c.index-own-place.result in
    let other = c.index-held-place.result in
    let at = slice_get_read own (length own) c.rows.place row refl c.rows-test.true c.index-own-place.is in
    let there = slice_get_read held (length held) c.rows.place other refl c.if-place-held.false c.index-held-place.is in
    let order = sym (c.compare_rows.ensures ∙ ap (λ it. slice_cmp (slice_cmp nat_cmp) it c.items-in-rows.result.now) c.items.ensures
    ∙ ap (slice_cmp (slice_cmp nat_cmp) row) c.items-in-rows.ensures) ∙ c.in-Equal.is in
    alike_on name own held c.requires.own c.requires.held c.rows.place c.rows.invariant row other at there order

pub returns-then-own-held : goal.returns-then-own-held
returns-then-own-held c =
    let name = c.args.name.now in
    let own = c.args.own.now in
    let held = c.args.held.now in
    let other = c.index-held-own.result in
    let there = slice_get_read held (length held) (length own) other refl c.if-own-held.true c.index-held-own.is in
    IfOk-weaker c.extra-then-own-held.result _ _ (λ outcome is.
    subst (TellsApart name own held) (sym is)
    (tells_longer name own held c.requires.own c.requires.held c.rows.place c.rows.invariant (omega (arith, c.rows-test.false)) other there))
    c.extra-then-own-held.ensures

pub returns : goal.returns
returns c =
    let all = c.rows-test.false in
    let end = c.if-own-held.false in
    tells_none c.args.name.now c.args.own.now c.args.held.now c.requires.own c.requires.held c.rows.place c.rows.invariant (omega (arith, all))
    (omega (arith, all, end))
