use Rattle.std.proofs.Common.{length, slice_get, refl, sym, ap, ◌∙◌, arith}
use Rattle.std.proofs.lemmas.Option.{slice_get_read}
use Rattle.esto_derive.specs.Writing.{own_lines, lines_at}
use Rattle.esto_derive.proofs.LoopLemmas.{flat_step, here_inside}
use Rattle.esto_derive.proofs.lines.lines_at.Goals as goal

pub offset_bounds-lines-place : goal.offset_bounds-lines-place
offset_bounds-lines-place c =
    let below = c.requires _ (here_inside (λ place. own_lines (slice_get c.args.lines.now place)) c.args.places.now c.places.place-index c.places-test.true) in
    omega (arith, below)

pub bounds-lines-place : goal.bounds-lines-place
bounds-lines-place c =
    c.requires _ (here_inside (λ place. own_lines (slice_get c.args.lines.now place)) c.args.places.now c.places.place-index c.places-test.true)

pub places-preserved : goal.places-preserved
places-preserved c =
    let below = c.requires _ (here_inside (λ place. own_lines (slice_get c.args.lines.now place)) c.args.places.now c.places.place-index c.places-test.true) in
    flat_step (λ place. own_lines (slice_get c.args.lines.now place)) c.args.places.now c.places.place-index c.places-test.true c.places.all
    c.items.result.now c.push_all.new.numbers (lines_at c.args.lines.now c.args.places.now)
    (ap own_lines (slice_get_read c.args.lines.now (length c.args.lines.now) _ c.index-lines-place.result refl below c.index-lines-place.is)
    ∙ sym c.items.ensures)
    c.in_ok-push_all.ensures c.places.invariant
