use Rattle.std.proofs.Common.{◌≡◌, ◌∷◌, [], refl, ap, subst, length, arith}
use Rattle.std.proofs.lemmas.List.{nil_from_length}
use Rattle.esto_term.proofs.ListLemmas.{Contains-nil}
use Rattle.esto_semantics.specs.Maps.{AreFlat}
use Rattle.esto_query.specs.Active.{rule_of, IsConcluded}
use Rattle.esto_query.specs.Trails.{with_trail}
use Rattle.esto_query.proofs.ActiveLemmas.{both_told, concluded_next, holds_without, holds_with, holds_more, holds_all}
use Rattle.esto_query.proofs.IndexLemmas.{place_at, place_read}
use Rattle.esto_query.proofs.LeastActiveLemmas.{least_at_end, least_onto, found_onto}
use Rattle.esto_query.proofs.LeastLemmas.{flat_first, flat_rest}
use Rattle.esto_query.proofs.TrailLemmas.{undone}
use Rattle.esto_query.proofs.least.+least.Goals as goal

pub least_from-returns-in_default : goal.least_from-returns-in_default
least_from-returns-in_default t c =
    let empty : c.args.atoms.now ≡ [] = nil_from_length _ c.in_default.ensures.cases in
    rw empty (both_told c.is_active.result _ _ _
    (λ same is tells. least_at_end c.args.facts.now (rule_of c.args.rule.now) c.args.start.now c.args.trail.now.items c.is_active.new.trail.items
    c.args.places.now same is tells) c.is_active.ensures.trail c.is_active.ensures.tells)

pub least_from-returns-then-not-branch : goal.least_from-returns-then-not-branch
least_from-returns-then-not-branch t c =
    let none = rw c.if-not-branch.true at c.in_ok-has_active.ensures.decides in
    (c.in_ok-has_active.ensures.trail, refl, none)

pub least_from-least_through-requires : goal.least_from-least_through-requires
least_from-least_through-requires t c =
    let split : c.args.atoms.now ≡ c.in-Some.atom.now ∷ c.in-Some.rest.now = c.in-Some.ensures.cases.0 in
    let aimed = rw (← c.in_ok-has_active.ensures.trail) at c.requires.aimed in (
      omega (arith, ap length split),
      (
        subst AreFlat split c.requires.flat,
        subst (λ atoms. IsConcluded c.args.rule.now.body.now c.args.rule.now.conclusion atoms (with_trail c.args.start.now c.has_active.new.trail.items))
            split aimed,
      ),
    )

pub least_from-returns : goal.least_from-returns
least_from-returns t c =
    let split : c.args.atoms.now ≡ c.in-Some.atom.now ∷ c.in-Some.rest.now = c.in-Some.ensures.cases.0 in
    rw split (rw c.in_ok-has_active.ensures.trail at c.least_through.ensures)

pub least_through-places-init : goal.least_through-places-init
least_through-places-init t c = record { trail = refl; places = refl; holds = λ place inside. absurd (Contains-nil place inside) }

pub least_through-bind_place-requires : goal.least_through-bind_place-requires
least_through-bind_place-requires t c = flat_first c.args.atom.now c.args.rest.now c.requires.flat

pub least_through-least_from-requires : goal.least_through-least_from-requires
least_through-least_from-requires t c =
    let old = with_trail c.args.start.now c.places.trail.items in
    let tried = rw c.in-Ok-true.field-0-test at c.in-Ok-true.ensures in
    let aimed = rw (← c.places.invariant.trail) at c.requires.aimed in (
      omega arith,
      (
        flat_rest c.args.atom.now c.args.rest.now c.requires.flat,
        concluded_next c.args.facts.now old c.args.atom.now c.args.rest.now c.requires.flat
            (place_at c.candidates-found.result.now c.places.place-index)
            (with_trail c.args.start.now c.bind_place.new.trail.items) tried.1 c.args.rule.now.body.now c.args.rule.now.conclusion aimed,
      ),
    )

pub least_through-returns-in-Ok-true-least_from : goal.least_through-returns-in-Ok-true-least_from
least_through-returns-in-Ok-true-least_from t c =
    let known = with_trail c.args.start.now c.args.trail.now.items in
    let mid = with_trail c.args.start.now c.bind_place.new.trail.items in
    let found = c.candidates-found.result.now in
    let place = place_at found c.places.place-index in
    let serves = rw c.deref.ensures.value at c.candidates-found.ensures in
    let tried = rw (c.in-Ok-true.field-0-test, c.places.invariant.trail) at c.in-Ok-true.ensures in
    let later = rw c.in-Ok-true-least_from.field-0-test at c.in-Ok-true-least_from.ensures in
    found_onto c.args.facts.now (rule_of c.args.rule.now) c.args.start.now c.args.atom.now c.args.rest.now c.args.trail.now.items
    c.bind_place.new.trail.items c.least_from.new.trail.items place c.args.places.now c.push.new.self c.least_from.new.places
    (least_onto c.args.facts.now (rule_of c.args.rule.now) known c.args.atom.now c.args.rest.now found serves c.places.place-index place
    c.places-test.true (place_read found c.places.place-index c.places-test.true) c.places.invariant.holds mid tried.1)
    (rw c.places.invariant.places at c.in_ok-push.ensures.ok) later

pub least_through-places-preserved-in-Ok-false : goal.least_through-places-preserved-in-Ok-false
least_through-places-preserved-in-Ok-false t c =
    let known = with_trail c.args.start.now c.args.trail.now.items in
    let found = c.candidates-found.result.now in
    let place = place_at found c.places.place-index in
    let tried = rw (c.in-Ok-false.field-0-test, c.places.invariant.trail) at c.in-Ok-false.ensures in
    record {
      trail = tried.0;
      places = c.places.invariant.places;
      holds = holds_more c.args.facts.now (rule_of c.args.rule.now) known c.args.atom.now c.args.rest.now found c.places.place-index place
          c.places-test.true (place_read found c.places.place-index c.places-test.true)
          (holds_without c.args.facts.now (rule_of c.args.rule.now) known c.args.atom.now c.args.rest.now place tried.1)
          c.places.invariant.holds;
    }

pub least_through-places-preserved : goal.least_through-places-preserved
least_through-places-preserved t c =
    let known = with_trail c.args.start.now c.args.trail.now.items in
    let found = c.candidates-found.result.now in
    let place = place_at found c.places.place-index in
    let grown = rw c.in-Ok-true.field-0-test at c.in-Ok-true.ensures in
    let tried = rw (c.in-Ok-true.field-0-test, c.places.invariant.trail) at c.in-Ok-true.ensures in
    let missed = rw c.in-Ok-false-least_from.field-0-test at c.in-Ok-false-least_from.ensures in
    record {
      trail = undone _ _ _ _ _ _ (omega (arith, c.args.trail.now.ok.0, c.len-mark.ensures)) c.places.invariant.trail grown.0 missed.0
          c.truncate-in-places.ensures.items;
      places = undone _ _ _ _ _ _ (omega (arith, c.len-depth.ensures)) c.places.invariant.places (place ∷ [], c.in_ok-push.ensures.ok) missed.1
          c.truncate.ensures;
      holds = holds_more c.args.facts.now (rule_of c.args.rule.now) known c.args.atom.now c.args.rest.now found c.places.place-index place
          c.places-test.true (place_read found c.places.place-index c.places-test.true)
          (holds_with c.args.facts.now (rule_of c.args.rule.now) known c.args.atom.now c.args.rest.now place
          (with_trail c.args.start.now c.bind_place.new.trail.items) tried.1 missed.2) c.places.invariant.holds;
    }

pub least_through-returns : goal.least_through-returns
least_through-returns t c =
    let serves = rw c.deref.ensures.value at c.candidates-found.ensures in (
      c.places.invariant.trail,
      c.places.invariant.places,
      holds_all c.args.facts.now (rule_of c.args.rule.now) (with_trail c.args.start.now c.args.trail.now.items) c.args.atom.now c.args.rest.now
          c.candidates-found.result.now c.places.place-index serves c.places-test.false c.places.invariant.holds,
    )
