use Rattle.std.proofs.Common.{length, ◌≡◌, ◌∷◌, [], refl, ap, ◌∙◌, subst, ◌≤◌, arith}
use Rattle.std.proofs.lemmas.List.{nil_from_length}
use Rattle.esto_query.proofs.IndexLemmas.{place_at, place_read, place_inside}
use Rattle.esto_semantics.specs.Maps.{AreFlat}
use Rattle.esto_query.specs.Trails.{with_trail}
use Rattle.esto_query.proofs.TrailLemmas.{undone}
use Rattle.esto_query.proofs.LeastLemmas.{AreLeft-first, AreLeft-next, AreLeft-low, AreLeft-end, NoneAt-back, NoneAt-skip, Searched-nil, Searched-found}
use Rattle.esto_query.proofs.LeastLemmas.{Searched-none, flat_first, flat_rest}
use Rattle.esto_query.proofs.search.+search.Goals as goal

pub returns-in_default : goal.returns-in_default
returns-in_default t c =
    let empty : c.args.body.now ≡ [] = nil_from_length _ c.in_default.ensures.cases in
    rw empty (Searched-nil c.args.start.now c.args.facts.now c.args.from.now c.args.places.now c.args.trail.now.items _ c.is_empty.ensures)

pub places-init : goal.places-init
places-init t c =
    let serves = rw c.deref.ensures.value at c.candidates-found.ensures in
    let cut = rw c.least_first.ensures at c.places_from-left.ensures in
    record {
      split = c.in-Some.ensures.cases.0;
      trail = refl;
      places = refl;
      left = AreLeft-first c.in-Some.atom.now c.in-Some.rest.now c.args.facts.now (with_trail c.args.start.now c.args.trail.now.items)
          c.args.from.now c.candidates-found.result.now c.places_from-left.result.now serves cut;
    }

pub places_from-left-requires : goal.places_from-left-requires
places_from-left-requires t c = c.candidates-found.ensures.rising

pub bind_place-requires : goal.bind_place-requires
bind_place-requires t c = flat_first _ c.in-Some.rest.now (subst AreFlat c.places.invariant.split c.requires)

pub search-requires : goal.search-requires
search-requires t c = (
  omega (arith, ap length c.places.invariant.split),
  flat_rest c.in-Some.atom.now _
      (subst AreFlat c.places.invariant.split c.requires),
)

pub returns-in-Ok-true-search : goal.returns-in-Ok-true-search
returns-in-Ok-true-search t c =
    let rising = c.places_from-left.ensures.rising in
    let place = place_at c.places_from-left.result.now c.places.place-index in
    let low = AreLeft-low c.in-Some.atom.now c.in-Some.rest.now c.args.facts.now
    (with_trail c.args.start.now c.args.trail.now.items) c.args.from.now c.places_from-left.result.now rising c.places.place-index
    c.places.invariant.left place c.places-test.true (place_read c.places_from-left.result.now c.places.place-index c.places-test.true) in
    let after = subst (λ n. n ≤ place) c.least_first.ensures
    (c.places_from-left.ensures.within place (place_inside c.places_from-left.result.now c.places.place-index c.places-test.true)) in
    let found = rw c.in-Ok-true-search.field-0-test at c.in-Ok-true-search.ensures in
    let tried = rw c.in-Ok-true.field-0-test at c.in-Ok-true.ensures in
    rw c.places.invariant.split
    (Searched-found c.args.start.now c.in-Some.atom.now c.in-Some.rest.now c.args.facts.now c.args.from.now place
    c.args.trail.now.items c.places.trail.items c.places.invariant.trail low
    c.bind_place.new.trail.items c.search.new.trail.items c.from_after.result.now c.args.places.now c.places.places c.push.new.self c.search.new.places
    c.places.invariant.places c.from_after.ensures c.in_ok-push.ensures.ok after tried found)

pub places-preserved-in-Ok-false : goal.places-preserved-in-Ok-false
places-preserved-in-Ok-false t c =
    let rising = c.places_from-left.ensures.rising in
    let place = place_at c.places_from-left.result.now c.places.place-index in
    let read = place_read c.places_from-left.result.now c.places.place-index c.places-test.true in
    let known = with_trail c.args.start.now c.args.trail.now.items in
    let low = AreLeft-low c.in-Some.atom.now c.in-Some.rest.now c.args.facts.now known c.args.from.now c.places_from-left.result.now rising
    c.places.place-index c.places.invariant.left place c.places-test.true read in
    let tried = rw c.in-Ok-false.field-0-test at c.in-Ok-false.ensures in
    record {
      split = c.places.invariant.split;
      trail = tried.0 ∙ c.places.invariant.trail;
      places = c.places.invariant.places;
      left = AreLeft-next c.in-Some.atom.now c.in-Some.rest.now c.args.facts.now known c.args.from.now c.places_from-left.result.now rising
          c.places.place-index c.places.invariant.left place c.places-test.true read
          (NoneAt-skip c.args.start.now c.in-Some.atom.now c.in-Some.rest.now c.args.facts.now c.args.from.now place
          c.args.trail.now.items c.places.trail.items c.places.invariant.trail low c.bind_place.new.trail.items tried);
    }

pub places-preserved : goal.places-preserved
places-preserved t c =
    let rising = c.places_from-left.ensures.rising in
    let place = place_at c.places_from-left.result.now c.places.place-index in
    let read = place_read c.places_from-left.result.now c.places.place-index c.places-test.true in
    let known = with_trail c.args.start.now c.args.trail.now.items in
    let low = AreLeft-low c.in-Some.atom.now c.in-Some.rest.now c.args.facts.now known c.args.from.now c.places_from-left.result.now rising
    c.places.place-index c.places.invariant.left place c.places-test.true read in
    let missed = rw c.in-Ok-false-search.field-0-test at c.in-Ok-false-search.ensures in
    let tried = rw c.in-Ok-true.field-0-test at c.in-Ok-true.ensures in
    record {
      split = c.places.invariant.split;
      trail = undone _ _ _ _ _ _ (omega (arith, c.args.trail.now.ok.0, c.len-mark.ensures)) c.places.invariant.trail tried.0 missed.1
          c.truncate-in-places.ensures.items;
      places = undone _ _ _ _ _ _ (omega (arith, c.len-depth.ensures)) c.places.invariant.places (place ∷ [], c.in_ok-push.ensures.ok) missed.0
          c.truncate.ensures;
      left = AreLeft-next c.in-Some.atom.now c.in-Some.rest.now c.args.facts.now known c.args.from.now c.places_from-left.result.now rising
          c.places.place-index c.places.invariant.left place c.places-test.true read
          (NoneAt-back c.args.start.now c.in-Some.atom.now c.in-Some.rest.now c.args.facts.now c.args.from.now place
          c.args.trail.now.items c.places.trail.items c.places.invariant.trail low
          c.bind_place.new.trail.items c.search.new.trail.items c.from_after.result.now c.push.new.self c.search.new.places c.from_after.ensures tried
          missed);
    }

pub returns : goal.returns
returns t c =
    let rising = c.places_from-left.ensures.rising in
    rw c.places.invariant.split (Searched-none c.args.start.now c.in-Some.atom.now c.in-Some.rest.now c.args.facts.now c.args.from.now
    c.args.trail.now.items c.places.trail.items c.args.places.now c.places.places c.places.invariant.places c.places.invariant.trail
    (AreLeft-end c.in-Some.atom.now c.in-Some.rest.now c.args.facts.now
    (with_trail c.args.start.now c.args.trail.now.items) c.args.from.now c.places_from-left.result.now rising c.places.place-index
    c.places.invariant.left c.places-test.false))
