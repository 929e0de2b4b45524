use Rattle.std.proofs.Common.{◌≡◌, ◌∷◌, refl, ap, ◌∙◌, length, arith}
use Rattle.std.proofs.lemmas.Result.{IfOk-weaker, on_ok_weaker}
use Rattle.std.specs.List.{insert, remove}
use Rattle.esto_term.proofs.ListLemmas.{Contains-nil}
use Rattle.esto_query.specs.Active.{rule_of}
use Rattle.esto_query.specs.Trails.{with_trail}
use Rattle.esto_query.proofs.ActiveLemmas.{head_less, equality_told, tuple_told, over_at_end, end_decides, denial_decides, same_decides, same_concluded}
use Rattle.esto_query.proofs.ActiveLemmas.{concluded_next, holds_without, holds_with, active_with, holds_more, holds_all}
use Rattle.esto_query.proofs.IndexLemmas.{place_at, place_read}
use Rattle.esto_query.proofs.LeastLemmas.{flat_first, flat_rest}
use Rattle.esto_query.proofs.OrderLemmas.{taken_same, taken_shorter, put_back, same_flat}
use Rattle.esto_query.proofs.TrailLemmas.{undone}
use Rattle.esto_query.proofs.active.+seek.Goals as goal

pub is_active-has_active-requires : goal.is_active-has_active-requires
is_active-has_active-requires t c =
    let aimed = rw c.in-Extends.is at c.requires.aimed in (
      omega (arith, c.decreases, head_less c.args.rule.now.conclusion c.in-Extends.head c.in-Extends.is),
      (aimed.1, tt),
    )

pub is_active-returns-in_ok-extends-in-Extends-clause-tells : goal.is_active-returns-in_ok-extends-in-Extends-clause-tells
is_active-returns-in_ok-extends-in-Extends-clause-tells t c =
    let known = with_trail c.args.start.now c.args.trail.now.items in
    let body = c.args.rule.now.body.now in
    let aimed = rw c.in-Extends.is at c.requires.aimed in
    rw c.in-Extends.is (tuple_told body known aimed.0 (over_at_end known body aimed.2) c.in-Extends.head.now c.args.facts.now _
    (denial_decides c.in-Extends.head.now c.args.facts.now known _ c.in_ok-extends-in-Extends.ensures.decides))

pub is_active-returns-in-Equals-clause-tells : goal.is_active-returns-in-Equals-clause-tells
is_active-returns-in-Equals-clause-tells t c =
    let known = with_trail c.args.start.now c.args.trail.now.items in
    let aimed = rw c.in-Equals.is at c.requires.aimed in
    let told = rw (c.value_of.ensures, c.value_of-in-Equals.ensures, c.deref.ensures.value, c.deref-in-Equals.ensures.value) at c.equal-is_same.ensures in
    rw c.in-Equals.is (equality_told c.args.rule.now.body.now c.args.facts.now c.in-Equals.one.now c.in-Equals.other.now known aimed
    c.equal-is_same.result told)

pub is_active-returns-in-Never-clause-tells : goal.is_active-returns-in-Never-clause-tells
is_active-returns-in-Never-clause-tells t c = rw c.in-Never.is (λ m keeps extends never. never)

pub has_active-seek-requires : goal.has_active-seek-requires
has_active-seek-requires t c = (
  omega (arith, c.decreases, ap length c.in_ok-left.ensures),
  (rw c.in_ok-left.ensures c.requires.flat, rw c.in_ok-left.ensures c.requires.aimed),
)

pub has_active-returns-clause-decides : goal.has_active-returns-clause-decides
has_active-returns-clause-decides t c = rw c.in_ok-left.ensures at c.seek.ensures.decides

pub seek-take-waiting-requires : goal.seek-take-waiting-requires
seek-take-waiting-requires t c = c.in-Some.ensures.within

pub seek-returns-in_default-clause-decides : goal.seek-returns-in_default-clause-decides
seek-returns-in_default-clause-decides t c =
    rw c.in_default.ensures (IfOk-weaker c.is_active.result _ _
    (end_decides c.args.facts.now (rule_of c.args.rule.now) (with_trail c.args.start.now c.args.trail.now.items)) c.is_active.ensures.tells)

pub seek-returns-in_default-clause-left : goal.seek-returns-in_default-clause-left
seek-returns-in_default-clause-left t c = on_ok_weaker c.is_active.result (λ _. refl) c.is_active.ensures.trail

pub seek-returns-in_default-clause-trail : goal.seek-returns-in_default-clause-trail
seek-returns-in_default-clause-trail t c = c.is_active.ensures.trail

pub seek-seek_each-requires : goal.seek-seek_each-requires
seek-seek_each-requires t c =
    let known = with_trail c.args.start.now c.args.trail.now.items in
    let left = c.args.left.now in
    let place = c.in-Some.choice.place in
    let atom = c.take-waiting.result.atom.now in
    let same = taken_same left place atom c.take-waiting.ensures.atom in
    let choice = rw c.deref.ensures.value at c.in-Some.ensures in
    let taken : c.take-waiting.new.self ≡ remove left place = c.take-waiting.ensures.left in (
      omega (arith, taken_shorter left place atom c.take-waiting.ensures.atom, ap length taken),
      (
        rw taken (same_flat left (atom ∷ remove left place) same c.requires.flat),
        (
          rw taken (same_concluded left (atom ∷ remove left place) same c.args.rule.now.body.now c.args.rule.now.conclusion known c.requires.aimed),
          choice.serves atom c.take-waiting.ensures.atom,
        ),
      ),
    )

pub seek-put-requires : goal.seek-put-requires
seek-put-requires t c =
    let left = c.args.left.now in
    let place = c.in-Some.choice.place in
    omega (
      arith,
      c.in-Some.ensures.within,
      ap length (c.in_ok-is_found.ensures.left ∙ c.take-waiting.ensures.left),
      taken_shorter left place c.take-waiting.result.atom.now c.take-waiting.ensures.atom,
    )

pub seek-returns-clause-left : goal.seek-returns-clause-left
seek-returns-clause-left t c =
    let place = c.in-Some.choice.place in
    let atom = c.take-waiting.result.atom.now in
    c.in_ok-put.ensures ∙ ap (λ left. insert left place atom) (c.in_ok-is_found.ensures.left ∙ c.take-waiting.ensures.left)
    ∙ put_back c.args.left.now place atom c.take-waiting.ensures.atom

pub seek-returns-clause-decides : goal.seek-returns-clause-decides
seek-returns-clause-decides t c =
    let left = c.args.left.now in
    let place = c.in-Some.choice.place in
    let atom = c.take-waiting.result.atom.now in
    let decides = rw c.take-waiting.ensures.left at c.in_ok-is_found.ensures.decides in
    same_decides left (atom ∷ remove left place) (taken_same left place atom c.take-waiting.ensures.atom) c.args.facts.now
    (rule_of c.args.rule.now) (with_trail c.args.start.now c.args.trail.now.items) c.in_ok-is_found.is_found decides

pub seek_each-places-init : goal.seek_each-places-init
seek_each-places-init t c = record { left = refl; trail = refl; holds = λ place inside. absurd (Contains-nil place inside) }

pub seek_each-bind_place-requires : goal.seek_each-bind_place-requires
seek_each-bind_place-requires t c = flat_first c.args.atom.now c.args.left.now c.requires.flat

pub seek_each-seek-requires : goal.seek_each-seek-requires
seek_each-seek-requires t c =
    let old = with_trail c.args.start.now c.places.trail.items in
    let tried = rw c.in-Ok-true.field-0-test at c.in-Ok-true.ensures in
    let aimed = rw (← c.places.invariant.trail) at c.requires.aimed in (
      omega (arith, ap length c.places.invariant.left),
      (
        rw c.places.invariant.left (flat_rest c.args.atom.now c.args.left.now c.requires.flat),
        rw c.places.invariant.left (concluded_next c.args.facts.now old c.args.atom.now c.args.left.now c.requires.flat
            (place_at c.args.found.now c.places.place-index)
            (with_trail c.args.start.now c.bind_place.new.trail.items) tried.1 c.args.rule.now.body.now c.args.rule.now.conclusion aimed),
      ),
    )

pub seek_each-returns-then-is_found-clause-left : goal.seek_each-returns-then-is_found-clause-left
seek_each-returns-then-is_found-clause-left t c = c.in-Ok.ensures.left ∙ c.places.invariant.left

pub seek_each-returns-then-is_found-clause-trail : goal.seek_each-returns-then-is_found-clause-trail
seek_each-returns-then-is_found-clause-trail t c =
    let grown = rw c.in-Ok-true.field-0-test at c.in-Ok-true.ensures in
    undone _ _ _ _ _ _ (omega (arith, c.args.trail.now.ok.0, c.len-mark.ensures)) c.places.invariant.trail grown.0
    c.in-Ok.ensures.trail c.truncate.ensures.items

pub seek_each-returns-then-is_found-clause-decides : goal.seek_each-returns-then-is_found-clause-decides
seek_each-returns-then-is_found-clause-decides t c =
    let tried = rw (c.in-Ok-true.field-0-test, c.places.invariant.trail) at c.in-Ok-true.ensures in
    let found = rw (c.if-is_found.true, c.places.invariant.left) at c.in-Ok.ensures.decides in
    active_with c.args.facts.now (rule_of c.args.rule.now) (with_trail c.args.start.now c.args.trail.now.items) c.args.atom.now c.args.left.now
    (place_at c.args.found.now c.places.place-index) (with_trail c.args.start.now c.bind_place.new.trail.items) tried.1 found

pub seek_each-places-preserved-in-Ok-false : goal.seek_each-places-preserved-in-Ok-false
seek_each-places-preserved-in-Ok-false t c =
    let known = with_trail c.args.start.now c.args.trail.now.items in
    let place = place_at c.args.found.now c.places.place-index in
    let tried = rw (c.in-Ok-false.field-0-test, c.places.invariant.trail) at c.in-Ok-false.ensures in
    record {
      left = c.places.invariant.left;
      trail = tried.0;
      holds = holds_more c.args.facts.now (rule_of c.args.rule.now) known c.args.atom.now c.args.left.now c.args.found.now c.places.place-index place
          c.places-test.true (place_read c.args.found.now c.places.place-index c.places-test.true)
          (holds_without c.args.facts.now (rule_of c.args.rule.now) known c.args.atom.now c.args.left.now place tried.1)
          c.places.invariant.holds;
    }

pub seek_each-places-preserved : goal.seek_each-places-preserved
seek_each-places-preserved t c =
    let known = with_trail c.args.start.now c.args.trail.now.items in
    let place = place_at c.args.found.now c.places.place-index in
    let grown = rw c.in-Ok-true.field-0-test at c.in-Ok-true.ensures in
    let tried = rw (c.in-Ok-true.field-0-test, c.places.invariant.trail) at c.in-Ok-true.ensures in
    let missed = rw (c.if-is_found.false, c.places.invariant.left) at c.in-Ok.ensures.decides in
    record {
      left = c.in-Ok.ensures.left ∙ c.places.invariant.left;
      trail = undone _ _ _ _ _ _ (omega (arith, c.args.trail.now.ok.0, c.len-mark.ensures)) c.places.invariant.trail grown.0
          c.in-Ok.ensures.trail c.truncate.ensures.items;
      holds = holds_more c.args.facts.now (rule_of c.args.rule.now) known c.args.atom.now c.args.left.now c.args.found.now c.places.place-index place
          c.places-test.true (place_read c.args.found.now c.places.place-index c.places-test.true)
          (holds_with c.args.facts.now (rule_of c.args.rule.now) known c.args.atom.now c.args.left.now place
          (with_trail c.args.start.now c.bind_place.new.trail.items) tried.1 missed) c.places.invariant.holds;
    }

pub seek_each-returns-clause-decides : goal.seek_each-returns-clause-decides
seek_each-returns-clause-decides t c =
    holds_all c.args.facts.now (rule_of c.args.rule.now) (with_trail c.args.start.now c.args.trail.now.items) c.args.atom.now c.args.left.now
    c.args.found.now c.places.place-index c.requires.serves c.places-test.false c.places.invariant.holds
