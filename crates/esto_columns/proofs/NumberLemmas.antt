-- Lists in which each thing has a number: a test tells whether a thing is the wanted one.
use Rattle.std.proofs.Common.{◌≡◌, ◌≢◌, ◌⊎◌, inl, inr, ℕ, zero, suc, ◌<◌, Bool, true, false, cond, ◌||◌, List, [], ◌∷◌, ◌++◌, map, length, Option, Some, None}
use Rattle.std.proofs.Common.{is_some, slice_get, Contains, refl, sym, ap, ◌∙◌, subst}
use Rattle.std.specs.Prelude.{AllPairs, MatchOption, position}
use Rattle.std.specs.Bool.{Decides}
use Rattle.std.specs.List.{list_any}
use Rattle.std.proofs.lemmas.Bool.{cases_order, false≢true}
use Rattle.std.proofs.lemmas.List.{map-append}
use Rattle.std.proofs.lemmas.List.Elements.{Contains-get_or}
use Rattle.std.proofs.lemmas.List.Quantifiers.{all_pairs_push, position-Some}
use Rattle.std.specs.Str.{bytes_eq}
use Rattle.esto_term.proofs.ListLemmas.{Contains-nil, Contains-cases, at_end, thing_at}
use Rattle.std.proofs.lemmas.Slice.Eq.{bytes_eq-Decides}
use Rattle.std.proofs.lemmas.Option.{none-some, same_Some, slice_get_within, get_or_from_slice_get}

-- different places of a list without repeats hold different things
pub one_place : {X : Type 0} (things : List X) → AllPairs ◌≢◌ things → (place other : ℕ) (thing : X) → slice_get things place ≡ Some thing
    → slice_get things other ≡ Some thing → place ≡ other
one_place things once place other thing at also = elim (cases_order place other) [
  | inl same ↦ same
  | inr apart ↦ elim apart [
    | inl below ↦ absurd (once place other thing below (slice_get_within things other thing also)
        (get_or_from_slice_get things place thing thing at ∙ sym (get_or_from_slice_get things other thing thing also)))
    | inr above ↦ absurd (once other place thing above (slice_get_within things place thing at)
        (get_or_from_slice_get things other thing thing also ∙ sym (get_or_from_slice_get things place thing thing at)))
  ]
]

seen_at : {X Y : Type 0} (seen : X → Y) (things : List X) (place : ℕ) (thing : X) → slice_get things place ≡ Some thing
    → slice_get (map seen things) place ≡ Some (seen thing)
seen_at seen [] place thing e = absurd (none-some thing e)
seen_at seen (first ∷ rest) zero thing e = ap (λ it. Some (seen it)) (same_Some first thing e)
seen_at seen (first ∷ rest) (suc place) thing e = seen_at seen rest place thing e

-- things are seen by their values, and the test tells whether a thing's value is the wanted one
module _ {X Y : Type 0} (seen : X → Y) (wanted : Y) (test : X → Bool) (told_of : (thing : X) → Decides (test thing) (seen thing ≡ wanted)) where
  any_none : (things : List X) → list_any test things ≡ false → Contains (map seen things) wanted → ⊥
  any_none [] none inside = Contains-nil wanted inside
  any_none (first ∷ rest) none inside = by (λ later. any_none rest later) (test first) refl none
    where
      by : (list_any test rest ≡ false → Contains (map seen rest) wanted → ⊥) → (answer : Bool) → test first ≡ answer → (answer || list_any test rest) ≡ false
          → ⊥
      by again true told all = absurd (false≢true (sym all))
      by again false told all = elim (Contains-cases (seen first) (map seen rest) wanted inside) [
        | inl is ↦ absurd (false≢true (sym told ∙ (told_of first).1 is))
        | inr later ↦ again all later
      ]

  -- the thing at a place that passes is seen as the wanted one
  pub passes_at : (things : List X) (place : ℕ) (thing : X) → slice_get things place ≡ Some thing → test thing ≡ true
      → slice_get (map seen things) place ≡ Some wanted
  passes_at things place thing at passes = seen_at seen things place thing at ∙ ap Some ((told_of thing).0 passes)

  pub number_of : (things : List X) (found : Option ℕ) → found ≡ position test things → is_some found ≡ list_any test things
      → MatchOption found (¬ (Contains (map seen things) wanted)) (λ number. slice_get (map seen things) number ≡ Some wanted)
  number_of things None e any = any_none things (sym any)
  number_of things (Some number) e any =
      let there : number < length things = elim (some_thing number things e) [ inl inside ↦ inside | inr wrong ↦ absurd wrong ] in
      let thing = thing_at things number there in
      passes_at things number thing.0 thing.1
      (ap test (sym (get_or_from_slice_get things number thing.0 thing.0 thing.1)) ∙ (position-Some test things number thing.0 (sym e)).1)
    where
      some_thing : (place : ℕ) (all : List X) → Some place ≡ position test all → (place < length all) ⊎ ⊥
      some_thing place [] e = absurd (none-some place (sym e))
      some_thing place (first ∷ rest) e = inl ((position-Some test (first ∷ rest) place first (sym e)).0)

  -- the list of things after an insert: the wanted one was there, or it goes last
  pub grown_by : (things new : List X) (thing : X) → seen thing ≡ wanted → new ≡ cond (list_any test things) things (things ++ thing ∷ [])
      → (new ≡ things) ⊎ ((new ≡ things ++ thing ∷ []) × (Contains (map seen things) wanted → ⊥))
  grown_by things new thing is e = by (list_any test things) refl e
    where
      by : (answer : Bool) → list_any test things ≡ answer → new ≡ cond answer things (things ++ thing ∷ [])
          → (new ≡ things) ⊎ ((new ≡ things ++ thing ∷ []) × (Contains (map seen things) wanted → ⊥))
      by true told new_is = inl new_is
      by false told new_is = inr (new_is, any_none things told)

  pub distinct_grown : (things new : List X) (thing : X) → seen thing ≡ wanted → new ≡ cond (list_any test things) things (things ++ thing ∷ [])
      → AllPairs ◌≢◌ (map seen things) → AllPairs ◌≢◌ (map seen new)
  distinct_grown things new thing is e once = elim (grown_by things new thing is e) [
    | inl same ↦ subst (λ it. AllPairs ◌≢◌ (map seen it)) (sym same) once
    | inr more ↦ subst (AllPairs ◌≢◌) (sym (ap (map seen) more.0 ∙ map-append seen things (thing ∷ [])))
        (all_pairs_push ◌≢◌ (map seen things) (seen thing) once
        (λ place default below same. more.1 (subst (Contains (map seen things)) (same ∙ is) (Contains-get_or (map seen things) place default below))))
  ]

  pub list_grown : (things new : List X) (thing : X) (number : ℕ) → seen thing ≡ wanted → new ≡ cond (list_any test things) things (things ++ thing ∷ [])
      → AllPairs ◌≢◌ (map seen things)
      → slice_get (map seen new) number ≡ Some wanted
      → (map seen new ≡ map seen things) ⊎ ((map seen new ≡ map seen things ++ wanted ∷ []) × (number ≡ length (map seen things)))
  list_grown things new thing number is e once at = elim (grown_by things new thing is e) [
    | inl same ↦ inl (ap (map seen) same)
    | inr more ↦ let list : map seen new ≡ map seen things ++ wanted ∷ [] =
        ap (map seen) more.0 ∙ map-append seen things (thing ∷ []) ∙ ap (λ it. map seen things ++ it ∷ []) is in
        inr (
          list,
          one_place (map seen new) (distinct_grown things new thing is e once) number (length (map seen things)) wanted at
              (ap (λ it. slice_get it (length (map seen things))) list ∙ at_end (map seen things) wanted),
        )
  ]

-- the test of lists of numbers tells whether the other is the wanted one
pub told_back : (wanted other : List ℕ) → Decides (bytes_eq wanted other) (other ≡ wanted)
told_back wanted other = let both = bytes_eq-Decides wanted other in ((λ yes. sym (both.0 yes)), (λ same. both.1 (sym same)))

pub told_from : (given wanted other : List ℕ) → given ≡ wanted → Decides (bytes_eq given other) (other ≡ wanted)
told_from given wanted other same = subst (λ it. Decides (bytes_eq given other) (other ≡ it)) same (told_back given other)
