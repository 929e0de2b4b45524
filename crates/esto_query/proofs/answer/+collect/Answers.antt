use Rattle.std.proofs.Common.{length, ◌≡◌, ◌∷◌, [], refl, ap, ◌∙◌, arith}
use Rattle.std.proofs.lemmas.Result.{on_ok_weaker}
use Rattle.std.specs.List.{insert, remove}
use Rattle.esto_query.proofs.IndexLemmas.{place_at, place_read}
use Rattle.esto_query.specs.Trails.{with_trail}
use Rattle.esto_query.proofs.TrailLemmas.{undone}
use Rattle.esto_query.proofs.LeastLemmas.{flat_first, flat_rest}
use Rattle.esto_query.proofs.OrderLemmas.{taken_same, taken_shorter, put_back, same_flat, same_known, same_rows}
use Rattle.esto_query.proofs.RowLemmas.{leaf_adds, none_seen, end_adds, AreKnown-next, turn_skip, turn_next}
use Rattle.esto_query.proofs.answer.+collect.Goals as goal

pub collect-push_if_matched-requires-clause-flat : goal.collect-push_if_matched-requires-clause-flat
collect-push_if_matched-requires-clause-flat t c = c.requires.flat

pub collect-push_if_matched-requires-clause-known : goal.collect-push_if_matched-requires-clause-known
collect-push_if_matched-requires-clause-known t c = rw c.deref.ensures.value at (c.are_known.ensures c.if-are_known.true)

pub collect-returns-in_default-clause-left : goal.collect-returns-in_default-clause-left
collect-returns-in_default-clause-left t c = on_ok_weaker c.push_image.result (λ _. refl) c.push_image.ensures

pub collect-returns-in_default-clause-trail : goal.collect-returns-in_default-clause-trail
collect-returns-in_default-clause-trail t c = on_ok_weaker c.push_image.result (λ _. refl) c.push_image.ensures

pub collect-returns-in_default-clause-adds : goal.collect-returns-in_default-clause-adds
collect-returns-in_default-clause-adds t c =
    let empty : c.args.left.now ≡ [] = c.in_default.ensures in
    let adds = rw c.deref-in_default.ensures.value at c.push_image.ensures in
    rw empty (on_ok_weaker c.push_image.result (leaf_adds c.args.head.now c.args.facts.now (with_trail c.args.start.now c.args.trail.now.items) _ _ _
    (rw empty at c.requires.known) refl) adds)

pub collect-collect_each-requires : goal.collect-collect_each-requires
collect-collect_each-requires t c =
    let known = with_trail c.args.start.now c.args.trail.now.items in
    let left = c.args.left.now in
    let place = c.in-Some.choice.place in
    let atom = c.take-waiting.result.atom.now in
    let same = taken_same left place atom c.take-waiting.ensures.atom in
    let choice = rw c.deref-2.ensures.value at c.in-Some.ensures in
    let taken : c.take-waiting.new.self ≡ remove left place = c.take-waiting.ensures.left in (
      omega (arith, taken_shorter left place atom c.take-waiting.ensures.atom, ap length taken),
      (
        rw taken (same_flat left (atom ∷ remove left place) same c.requires.flat),
        (
          rw taken (same_known left (atom ∷ remove left place) same c.args.head.now known c.requires.known),
          choice.serves atom c.take-waiting.ensures.atom,
        ),
      ),
    )

pub collect-take-waiting-requires : goal.collect-take-waiting-requires
collect-take-waiting-requires t c = c.in-Some.ensures.within

pub collect-put-requires : goal.collect-put-requires
collect-put-requires t c =
    let left = c.args.left.now in
    let place = c.in-Some.choice.place in
    omega (
      arith,
      c.in-Some.ensures.within,
      ap length (c.in_ok-collect_each.ensures.left ∙ c.take-waiting.ensures.left),
      taken_shorter left place c.take-waiting.result.atom.now c.take-waiting.ensures.atom,
    )

pub collect-returns-clause-left : goal.collect-returns-clause-left
collect-returns-clause-left t c =
    let place = c.in-Some.choice.place in
    let atom = c.take-waiting.result.atom.now in
    on_ok_weaker c.put.result (λ back. back ∙ ap (λ left. insert left place atom) (c.in_ok-collect_each.ensures.left ∙ c.take-waiting.ensures.left)
    ∙ put_back c.args.left.now place atom c.take-waiting.ensures.atom) c.put.ensures

pub collect-returns-clause-trail : goal.collect-returns-clause-trail
collect-returns-clause-trail t c = on_ok_weaker c.put.result (λ _. c.in_ok-collect_each.ensures.trail) c.put.ensures

pub collect-returns-clause-adds : goal.collect-returns-clause-adds
collect-returns-clause-adds t c =
    let left = c.args.left.now in
    let place = c.in-Some.choice.place in
    let atom = c.take-waiting.result.atom.now in
    let adds = rw c.take-waiting.ensures.left at c.in_ok-collect_each.ensures.adds in
    on_ok_weaker c.put.result (λ _. same_rows left (atom ∷ remove left place) (taken_same left place atom c.take-waiting.ensures.atom)
    c.args.head.now c.args.facts.now (with_trail c.args.start.now c.args.trail.now.items) _ _ adds) c.put.ensures

pub collect_each-places-init : goal.collect_each-places-init
collect_each-places-init t c = record {
  left = refl;
  trail = refl;
  adds = none_seen c.args.head.now c.args.atom.now c.args.left.now c.args.facts.now (with_trail c.args.start.now c.args.trail.now.items)
      c.args.rows.now.items;
}

pub collect_each-bind_place-requires : goal.collect_each-bind_place-requires
collect_each-bind_place-requires t c = flat_first c.args.atom.now c.args.left.now c.requires.flat

pub collect_each-collect-requires : goal.collect_each-collect-requires
collect_each-collect-requires t c =
    let tried = rw c.in-Ok-true.field-0-test at c.in-Ok-true.ensures in
    let known = rw (← c.places.invariant.trail) at c.requires.known in (
      omega (arith, ap length c.places.invariant.left),
      (
        rw c.places.invariant.left (flat_rest c.args.atom.now c.args.left.now c.requires.flat),
        rw c.places.invariant.left (AreKnown-next (with_trail c.args.start.now c.places.trail.items)
            (with_trail c.args.start.now c.bind_place.new.trail.items) c.args.atom.now c.args.facts.now
            (place_at c.args.found.now c.places.place-index) c.args.left.now tried.1 c.args.head.now
            known),
      ),
    )

pub collect_each-places-preserved : goal.collect_each-places-preserved
collect_each-places-preserved t c =
    let tried = rw (c.in-Ok-true.field-0-test, c.places.invariant.trail) at c.in-Ok-true.ensures in
    let grown = rw c.in-Ok-true.field-0-test at c.in-Ok-true.ensures in
    let more = rw c.places.invariant.left at c.in-Ok.ensures.adds in
    record {
      left = c.in-Ok.ensures.left ∙ c.places.invariant.left;
      trail = undone _ _ _ _ _ _ (omega (arith, c.args.trail.now.ok.0, c.len-mark.ensures)) c.places.invariant.trail grown.0
          c.in-Ok.ensures.trail c.truncate.ensures.items;
      adds = turn_next c.args.head.now c.args.atom.now c.args.left.now c.args.facts.now
          (with_trail c.args.start.now c.args.trail.now.items) c.args.rows.now.items c.args.found.now c.requires.serves c.places.place-index
          (place_at c.args.found.now c.places.place-index)
          (with_trail c.args.start.now c.bind_place.new.trail.items) c.places.rows.items _ c.places-test.true
          (place_read c.args.found.now c.places.place-index c.places-test.true) tried.1 more
          c.places.invariant.adds;
    }

pub collect_each-places-preserved-in-Ok-false : goal.collect_each-places-preserved-in-Ok-false
collect_each-places-preserved-in-Ok-false t c =
    let tried = rw (c.in-Ok-false.field-0-test, c.places.invariant.trail) at c.in-Ok-false.ensures in
    record {
      left = c.places.invariant.left;
      trail = tried.0;
      adds = turn_skip c.args.head.now c.args.atom.now c.args.left.now c.args.facts.now
          (with_trail c.args.start.now c.args.trail.now.items) c.args.rows.now.items c.args.found.now c.requires.serves c.places.place-index
          (place_at c.args.found.now c.places.place-index) c.places.rows.items c.places-test.true
          (place_read c.args.found.now c.places.place-index c.places-test.true) tried.1 c.places.invariant.adds;
    }

pub collect_each-returns-clause-left : goal.collect_each-returns-clause-left
collect_each-returns-clause-left t c = c.places.invariant.left

pub collect_each-returns-clause-trail : goal.collect_each-returns-clause-trail
collect_each-returns-clause-trail t c = c.places.invariant.trail

pub collect_each-returns-clause-adds : goal.collect_each-returns-clause-adds
collect_each-returns-clause-adds t c =
    end_adds c.args.head.now c.args.atom.now c.args.left.now c.args.facts.now
    (with_trail c.args.start.now c.args.trail.now.items) c.args.rows.now.items c.args.found.now c.requires.serves c.places.place-index
    c.places.rows.items c.places-test.false c.places.invariant.adds
