use Rattle.std.proofs.Common.{get_or, slice_get, ap, arith}
use Rattle.std.proofs.lemmas.Option.{slice_get-get_or}
use Rattle.esto_derive.specs.Writing.{claimed_terms, entry_terms, terms_at}
use Rattle.esto_derive.proofs.LoopLemmas.{flat_step, here_inside}
use Rattle.esto_derive.proofs.writing.terms_at.Goals as goal

pub offset_bounds-entries-place : goal.offset_bounds-entries-place
offset_bounds-entries-place c =
    let below = c.requires _
    (here_inside (λ place. entry_terms (slice_get c.args.entries.now place)) c.args.places.now c.places.place-index c.places-test.true) in
    omega (arith, below)

pub bounds-entries-place : goal.bounds-entries-place
bounds-entries-place c =
    c.requires _ (here_inside (λ place. entry_terms (slice_get c.args.entries.now place)) c.args.places.now c.places.place-index c.places-test.true)

pub places-preserved : goal.places-preserved
places-preserved c =
    let below = c.requires _
    (here_inside (λ place. entry_terms (slice_get c.args.entries.now place)) c.args.places.now c.places.place-index c.places-test.true) in
    flat_step (λ place. entry_terms (slice_get c.args.entries.now place)) c.args.places.now c.places.place-index c.places-test.true c.places.terms
    (claimed_terms (get_or c.args.entries.now (get_or c.args.places.now c.places.place-index 0) c.index-entries-place.result).claim) c.put_terms.new.terms
    (terms_at c.args.entries.now c.args.places.now)
    (ap entry_terms (slice_get-get_or c.args.entries.now (get_or c.args.places.now c.places.place-index 0) c.index-entries-place.result below))
    c.in_ok-put_terms.ensures c.places.invariant
