use Rattle.std.proofs.Common.{List, ℕ, [], ◌++◌, take, length, slice_get, refl, sym, subst, ap, ◌∙◌, arith}
use Rattle.std.proofs.lemmas.List.{take_all}
use Rattle.std.proofs.lemmas.Option.{slice_get_read}
use Rattle.esto_derive.specs.Writing.{own_lines, lines_at, AddsNew}
use Rattle.esto_derive.proofs.LoopLemmas.{flat_taken, here_inside, adds_then}
use Rattle.esto_derive.proofs.lines.links_at.Goals as goal

pub offset_bounds-lines-place : goal.offset_bounds-lines-place
offset_bounds-lines-place c =
    let below = c.requires _ (here_inside (λ place. own_lines (slice_get c.args.lines.now place)) c.args.places.now c.places.place-index c.places-test.true) in
    omega (arith, below)

pub bounds-lines-place : goal.bounds-lines-place
bounds-lines-place c =
    c.requires _ (here_inside (λ place. own_lines (slice_get c.args.lines.now place)) c.args.places.now c.places.place-index c.places-test.true)

pub places-preserved : goal.places-preserved
places-preserved c =
    let below = c.requires _ (here_inside (λ place. own_lines (slice_get c.args.lines.now place)) c.args.places.now c.places.place-index c.places-test.true) in
    subst (λ (it : List ℕ). AddsNew [] it c.push_all_new.new.numbers)
    (ap (λ (it : List ℕ). lines_at c.args.lines.now (take c.places.place-index c.args.places.now) ++ it)
    (c.items.ensures
    ∙ sym (ap own_lines (slice_get_read c.args.lines.now (length c.args.lines.now) _ c.index-lines-place.result refl below c.index-lines-place.is)))
    ∙ sym (flat_taken (λ place. own_lines (slice_get c.args.lines.now place)) c.args.places.now c.places.place-index c.places-test.true))
    (adds_then [] (lines_at c.args.lines.now (take c.places.place-index c.args.places.now)) c.places.all c.items.result.now c.push_all_new.new.numbers
    c.places.invariant c.in_ok-push_all_new.ensures)

pub returns : goal.returns
returns c =
    subst (λ (it : List ℕ). AddsNew [] (lines_at c.args.lines.now it) c.places.all)
    (take_all c.places.place-index c.args.places.now (omega (arith, c.places-test.false))) c.places.invariant
