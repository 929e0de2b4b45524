-- What stands for a term, and what the terms of a view stand for in an atom.
use Rattle.std.proofs.Common.{◌≡◌, ◌≢◌, inl, inr, zero, suc, ℕ, ◌<◌, ◌≤◌, ◌+◌, Bool, true, false, cond, List, [], ◌∷◌, ◌++◌, map, length, take, drop, get_or}
use Rattle.std.proofs.Common.{slice_get, Contains, Some, refl, sym, ap, ◌∙◌, subst, arith}
use Rattle.std.specs.List.{AllPairs, range_with_len}
use Rattle.std.proofs.lemmas.List.{length-map, length-append, get_or-map, append-nil, append_assoc, map-append, take_more, take_all}
use Rattle.std.proofs.lemmas.List.Elements.{Contains-append_cases}
use Rattle.std.proofs.lemmas.List.FromFn.{length-range_with_len, map-range_with_len_more}
use Rattle.std.proofs.lemmas.Option.{slice_get_within}
use Rattle.esto_term.specs.declared.term.Term.{Term}
use Rattle.esto_term.specs.declared.term.Term.TheVariants.{Const, Plain}
use Rattle.esto_semantics.specs.Maps.{IsVariable}
use Rattle.esto_semantics.specs.Queries.{ConjunctiveQuery}
use Rattle.esto_term.specs.Order.{same_term}
use Rattle.esto_semantics.proofs.TermLemmas.{same_term-Decides, Const-apart-Plain, Plain-same}
use Rattle.esto_term.proofs.DistinctLemmas.{distinct_head, distinct_rest}
use Rattle.esto_semantics.specs.Spreads.{AreInner, IsSpread, substituted}
use Rattle.esto_term.proofs.ChoiceLemmas.{pairs_append}
use Rattle.esto_term.proofs.ListLemmas.{Contains-at, Contains-map_from, at_left, at_right, map_at, map_by_places, range_at}
use Rattle.esto_term.proofs.PlaceLemmas.{drop-there}

-- ---- what stands for a term

-- what an answer chooses is what the same answer chooses
pub cond_is : {X : Type 0} (answer told : Bool) (one other : X) → answer ≡ told → cond answer one other ≡ cond told one other
cond_is answer told one other is = ap (λ it. cond it one other) is

pub apart_told : (term other : Term) → (term ≡ other → ⊥) → same_term term other ≡ false
apart_told term other apart = by (same_term term other) refl
  where
    by : (answer : Bool) → same_term term other ≡ answer → answer ≡ false
    by true told = absurd (apart ((same_term-Decides term other).0 told))
    by false told = refl

pub substituted-at : (from to : List Term) (place : ℕ) (term target : Term) → AllPairs {X = Term} ◌≢◌ from → slice_get from place ≡ Some term
    → slice_get to place ≡ Some target
    → substituted from to term ≡ target
substituted-at [] to place term target distinct at goes = absurd (cc)
substituted-at (first ∷ from) [] place term target distinct at goes = absurd (cc)
substituted-at (first ∷ from) (own ∷ to) zero term target distinct at goes =
    let is : term ≡ first = cc in
    let own_is : own ≡ target = cc in
    ap (λ answer. cond answer own (substituted from to term)) ((same_term-Decides term first).1 is) ∙ own_is
substituted-at (first ∷ from) (own ∷ to) (suc place) term target distinct at goes =
    cond_is (same_term term first) false own (substituted from to term) (apart_told term first
    (λ is. distinct_head first from term distinct (Contains-at from place term at) (sym is)))
    ∙ substituted-at from to place term target (distinct_rest first from distinct) at goes

pub substituted-outside : (from to : List Term) (term : Term) → (Contains from term → ⊥) → substituted from to term ≡ term
substituted-outside [] to term outside = refl
substituted-outside (first ∷ from) [] term outside = refl
substituted-outside (first ∷ from) (own ∷ to) term outside =
    cond_is (same_term term first) false own (substituted from to term) (apart_told term first (λ is. outside (0, omega arith, sym is)))
    ∙ substituted-outside from to term (λ inside. outside (suc inside.0, omega (arith, inside.1), inside.2))

-- ---- a search from the front

module _ (from to : List Term) (place : ℕ) (term first own : Term) (answer : Bool) (at : slice_get from place ≡ Some first)
    (goes : slice_get to place ≡ Some own)
    (told : answer ≡ same_term term first) where
  one_step : substituted (drop place from) (drop place to) term ≡ cond answer own (substituted (drop (place + 1) from) (drop (place + 1) to) term)
  one_step =
      (λ i. substituted (drop-there from place first at i) (drop-there to place own goes i) term)
      ∙ ap (λ it. cond it own (substituted (drop (place + 1) from) (drop (place + 1) to) term)) (sym told)

  pub substituted_here : answer ≡ true → substituted (drop place from) (drop place to) term ≡ own
  substituted_here is = one_step ∙ ap (λ it. cond it own (substituted (drop (place + 1) from) (drop (place + 1) to) term)) is

  pub substituted_later : answer ≡ false → substituted (drop (place + 1) from) (drop (place + 1) to) term ≡ substituted (drop place from) (drop place to) term
  substituted_later is = sym (one_step ∙ ap (λ it. cond it own (substituted (drop (place + 1) from) (drop (place + 1) to) term)) is)

-- what one more of the things stands for, after those before it
pub map_more : {X Y : Type 0} (m : X → Y) (things : List X) (place : ℕ) (thing : X) (before after : List Y) → place < length things
    → thing ≡ get_or things place thing → after ≡ before ++ m thing ∷ [] → before ≡ map m (take place things) → after ≡ map m (take (place + 1) things)
map_more m things place thing before after within read one so_far =
    one ∙ ap (λ it. it ++ m thing ∷ []) so_far ∙ sym (map-append m (take place things) (thing ∷ []))
    ∙ ap (map m) (ap (λ it. take place things ++ it ∷ []) read ∙ sym (take_more things place thing within))

-- ---- what the terms of a view stand for

-- the terms and what they stand for, after so many inner variables
pub record IsSpreadSoFar (head terms : List Term) (inner : List ℕ) (first count : ℕ) (from to : List Term) (next : ℕ) : Type 0 where
  pub from_is : from ≡ head ++ map Plain (take count inner)
  pub to_is : to ≡ terms ++ map Plain (range_with_len first count)
  pub next_is : next ≡ first + count

pub spread_none : (head terms : List Term) (inner : List ℕ) (first : ℕ) → IsSpreadSoFar head terms inner first 0 head terms first
spread_none head terms inner first = record { from_is = sym (append-nil head); to_is = sym (append-nil terms); next_is = omega arith }

pub spread_more : (head terms : List Term) (inner : List ℕ) (first count number : ℕ) (from to from_more to_more : List Term) (next after : ℕ)
    → count < length inner → number ≡ get_or inner count 0
    → from_more ≡ from ++ Plain number ∷ [] → to_more ≡ to ++ Plain next ∷ [] → after ≡ next + 1
    → IsSpreadSoFar head terms inner first count from to next → IsSpreadSoFar head terms inner first (count + 1) from_more to_more after
spread_more head terms inner first count number from to from_more to_more next after within read from_one to_one next_one so_far = record {
  from_is =
      from_one ∙ ap (λ it. it ++ Plain number ∷ []) so_far.from_is ∙ append_assoc head (map Plain (take count inner)) (Plain number ∷ [])
      ∙ ap (λ it. head ++ it) (sym (map-append Plain (take count inner) (number ∷ [])))
      ∙ ap (λ it. head ++ map Plain it) (ap (λ it. take count inner ++ it ∷ []) read ∙ sym (take_more inner count 0 within));
  to_is =
      to_one ∙ ap (λ it. it ++ Plain next ∷ []) so_far.to_is ∙ append_assoc terms (map Plain (range_with_len first count)) (Plain next ∷ [])
      ∙ ap (λ it. terms ++ it) (sym (map-range_with_len_more Plain first count next (sym so_far.next_is)));
  next_is = let before = so_far.next_is in omega arith;
}

pub spread_end : (head terms : List Term) (inner : List ℕ) (first count : ℕ) (from to : List Term) (next : ℕ) → length inner ≤ count → count ≤ length inner
    → IsSpreadSoFar head terms inner first count from to next
    → (from ≡ head ++ map Plain inner) × (to ≡ terms ++ map Plain (range_with_len first (length inner))) × (next ≡ first + length inner)
spread_end head terms inner first count from to next past within so_far =
    let whole : count ≡ length inner = omega arith in (
      so_far.from_is ∙ ap (λ it. head ++ map Plain it) (take_all count inner past),
      so_far.to_is ∙ ap (λ it. terms ++ map Plain (range_with_len first it)) whole,
      so_far.next_is ∙ ap (λ it. first + it) whole,
    )

variables-distinct : (numbers : List ℕ) → AllPairs ◌<◌ numbers → AllPairs {X = Term} ◌≢◌ (map Plain numbers)
variables-distinct numbers rising i j d less within same =
    let short : j < length numbers = rw (length-map numbers Plain) at within in
    let left = get_or-map Plain numbers i 0 d (omega arith) in
    let right = get_or-map Plain numbers j 0 d short in
    let equal = Plain-same _ _ (sym left ∙ same ∙ right) in
    let below = rising i j 0 less short in
    omega arith

module _ (view : ConjunctiveQuery) (terms : List Term) (first next : ℕ) (inner : List ℕ) (are_inner : AreInner view inner)
    (variables : (term : Term) → Contains view.head term → IsVariable term) (distinct : AllPairs {X = Term} ◌≢◌ view.head)
    (lengths : length terms ≡ length view.head) where
  abbrev from : List Term
  from = view.head ++ map Plain inner

  abbrev to : List Term
  to = terms ++ map Plain (range_with_len first (length inner))

  all_distinct : AllPairs {X = Term} ◌≢◌ from
  all_distinct = pairs_append ◌≢◌ view.head (map Plain inner) distinct (variables-distinct inner are_inner.rising)
      (λ term other in_head in_inner same.
      let found = Contains-map_from Plain inner other in_inner in
      ((are_inner.exact found.0).0 found.1).not_in_head (subst (Contains view.head) (same ∙ sym found.2) in_head))

  no_constant : (text : List ℕ) → Contains from (Const text) → ⊥
  no_constant text inside = elim (Contains-append_cases view.head (map Plain inner) (Const text) inside) [
    | inl in_head ↦ let variable = variables (Const text) in_head in Const-apart-Plain text variable.0 variable.1
    | inr in_inner ↦ let found = Contains-map_from Plain inner (Const text) in_inner in Const-apart-Plain text found.0 (sym found.2)
  ]

  pub spread_is : next ≡ first + length inner → IsSpread view terms first next (substituted from to)
  spread_is after = record {
    inner = inner;
    are_inner = are_inner;
    keeps = λ text. substituted-outside from to (Const text) (no_constant text);
    head = map_by_places (substituted from to) view.head terms (sym lengths)
        (λ place term target at goes. substituted-at from to place term target all_distinct
        (at_left view.head (map Plain inner) place term at) (at_left terms (map Plain (range_with_len first (length inner))) place target goes));
    new = λ place number at.
        substituted-at from to (length view.head + place) (Plain number) (Plain (first + place)) all_distinct
        (at_right view.head (map Plain inner) place (Plain number) (map_at Plain inner place number at))
        (subst (λ count. slice_get to (count + place) ≡ Some (Plain (first + place))) lengths
        (at_right terms (map Plain (range_with_len first (length inner))) place (Plain (first + place))
        (map_at Plain (range_with_len first (length inner)) place (first + place)
        (range_at first (length inner) place (slice_get_within inner place number at)))));
    after = after;
  }

  pub spread_done : (sources targets : List Term) → sources ≡ from → targets ≡ to → next ≡ first + length inner
      → IsSpread view terms first next (substituted sources targets) × (length sources ≡ length targets)
  spread_done sources targets sources_are targets_are after = (
    subst (λ it. IsSpread view terms first next (substituted it targets)) (sym sources_are)
        (subst (λ it. IsSpread view terms first next (substituted from it)) (sym targets_are) (spread_is after)),
    ap length sources_are
        ∙ length-append view.head (map Plain inner)
        ∙ ap (λ it. it + length (map Plain inner)) (sym lengths) ∙ ap (λ it. length terms + it) (length-map inner Plain)
        ∙ ap (λ it. length terms + it) (sym (length-map (range_with_len first (length inner)) Plain ∙ length-range_with_len first (length inner)))
        ∙ sym (length-append terms (map Plain (range_with_len first (length inner))))
        ∙ sym (ap length targets_are),
  )
