-- A search for the least match, by the place of the first atom.
use Rattle.std.proofs.Common.{◌≡◌, ℕ, ◌+◌, ◌-◌, ◌<◌, ◌≤◌, ◌++◌, ◌↔◌, Bool, true, false, eqb, List, [], ◌∷◌, length, get_or, drop, All, Contains, Option, Some}
use Rattle.std.proofs.Common.{None, refl, sym, ap, subst, ◌∙◌, inl, inr, arith}
use Rattle.std.specs.List.{slice_get}
use Rattle.std.specs.Option.{IfSome, IfNone}
use Rattle.std.specs.declared.cmp.Ordering.TheVariants.{Less, Equal, Greater}
use Rattle.std.proofs.lemmas.Bool.Decides.{nat_tests}
use Rattle.std.proofs.lemmas.Option.{slice_get_within}
use Rattle.std.proofs.lemmas.List.{append_assoc, append-nil, drop_all, get_or-drop, get_or_read, length-drop, nil_from_length}
use Rattle.std.proofs.lemmas.List.Elements.{All-cons}
use Rattle.esto_term.specs.declared.term.Term.{Term}
use Rattle.esto_term.specs.declared.term.Term.TheVariants.{Const}
use Rattle.esto_semantics.specs.Facts.{image}
use Rattle.esto_semantics.specs.Maps.{IsFlat, AreFlat, Keeps}
use Rattle.esto_semantics.specs.declared.fact.Fact.{Fact}
use Rattle.esto_semantics.specs.Valuations.{Assignment, Extends, map_of}
use Rattle.esto_query.specs.Matches.{IsLeastMatch, HasNoMatch}
use Rattle.esto_semantics.specs.Matches.{IsMatch, IsBefore, IsAtMost}
use Rattle.esto_query.specs.Trails.{with_trail, Narrows, Excludes, Tries}
use Rattle.esto_query.specs.Searches.{IsLeastFrom, Searched, Follows, first_from, rest_from}
use Rattle.esto_query.specs.declared.trail.Binding.{Binding}
use Rattle.esto_query.specs.declared.matches.Found.{Found}
use Rattle.esto_table.specs.Places.{IsRising}
use Rattle.esto_query.specs.Indexes.{AreCandidates}
use Rattle.esto_table.specs.Places.{AreFrom}
use Rattle.esto_semantics.proofs.ValuationLemmas.{Keeps-map_of, Extends-map_of}
use Rattle.esto_query.proofs.TrailLemmas.{Grew-same, Grew-then}
use Rattle.esto_query.proofs.PlaceLemmas.{IsAtMost-nil, first_is_least, rest_is_at_most, IsAtMost-onto, IsAtMost-least}
use Rattle.esto_query.proofs.MatchLemmas.{IsMatch-length, found_variables}
use Rattle.esto_term.proofs.ListLemmas.{Contains-cases, Contains-head, Contains-nil, Contains-rest}
use Rattle.esto_term.proofs.PlaceLemmas.{drop-item}

-- ---- where no first place below a bound has a match

pub record NoneBelow (atom : Fact Term) (rest facts : List (Fact Term)) (known : Assignment) (from : List ℕ) (bound : ℕ) : Type 0 where
  pub at_or_after : (m : Term → Term) (place : ℕ) (places : List ℕ) → Keeps Const m → Extends m known → IsMatch m (atom ∷ rest) facts (place ∷ places)
      → IsAtMost from (place ∷ places) → bound ≤ place

-- no match has this first place
abbrev pub NoneAt : Fact Term → List (Fact Term) → List (Fact Term) → Assignment → List ℕ → ℕ → Type 0
NoneAt atom rest facts known from here =
    (m : Term → Term) (places : List ℕ) → Keeps Const m → Extends m known → IsMatch m (atom ∷ rest) facts (here ∷ places) → IsAtMost from (here ∷ places) → ⊥

module _ (atom : Fact Term) (rest facts : List (Fact Term)) (known : Assignment) (from : List ℕ) where
  module _ (here : ℕ) where
    no_fact : Excludes known (λ m. slice_get facts here ≡ Some (image m atom)) → NoneAt atom rest facts known from here
    no_fact none m places keeps extends match after = none m keeps extends match.0

    no_rest : (mid : Assignment) → Narrows known mid (λ m. slice_get facts here ≡ Some (image m atom)) → HasNoMatch rest facts mid
        (IsAtMost (rest_from from here))
        → NoneAt atom rest facts known from here
    no_rest mid step none m places keeps extends match after =
        none m places keeps ((step m keeps).1 (extends, match.0)) match.1 (rest_is_at_most from here places after)

    IsLeastFrom-cons : (mid new : Assignment) (places : List ℕ) → NoneBelow atom rest facts known from here → first_from from ≤ here
        → Narrows known mid (λ m. slice_get facts here ≡ Some (image m atom)) → IsLeastFrom rest facts (rest_from from here) mid new places
        → IsLeastFrom (atom ∷ rest) facts from known new (here ∷ places)
    IsLeastFrom-cons mid new places none low step found = record {
      matches = λ m keeps. (
        λ extends. let f = (found.matches m keeps).0 extends in let s = (step m keeps).0 f.0 in (s.0, (s.1, f.1)),
        λ both. (found.matches m keeps).1 ((step m keeps).1 (both.0, both.1.0), both.1.1),
      );
      within = IsAtMost-onto from here places low found.within;
      least = least_case;
    }
      where
        same_place : (m : Term → Term) (qs : List ℕ) → Keeps Const m → Extends m known → IsMatch m (atom ∷ rest) facts (here ∷ qs) → IsAtMost from (here ∷ qs)
            → IsAtMost places qs
        same_place m qs keeps extends match after =
            found.least m qs keeps ((step m keeps).1 (extends, match.0)) match.1 (rest_is_at_most from here qs after)

        least_case : (m : Term → Term) (others : List ℕ) → Keeps Const m → Extends m known → IsMatch m (atom ∷ rest) facts others → IsAtMost from others
            → IsAtMost (here ∷ places) others
        least_case m [] keeps extends match after = absurd match
        least_case m (q ∷ qs) keeps extends match after =
            IsAtMost-least here q places qs (none.at_or_after m q qs keeps extends match after)
            (λ same. same_place m qs keeps extends (subst (λ p. IsMatch m (atom ∷ rest) facts (p ∷ qs)) same match)
            (subst (λ p. IsAtMost from (p ∷ qs)) same after))

-- ---- where the first places of all matches are among the candidates that are left

pub record AreLeft (atom : Fact Term) (rest facts : List (Fact Term)) (known : Assignment) (from : List ℕ) (left : List ℕ) : Type 0 where
  pub among : (m : Term → Term) (place : ℕ) (places : List ℕ) → Keeps Const m → Extends m known → IsMatch m (atom ∷ rest) facts (place ∷ places)
      → IsAtMost from (place ∷ places) → Contains left place

pub AreLeft-first : (atom : Fact Term) (rest facts : List (Fact Term)) (known : Assignment) (from : List ℕ) (all found : List ℕ)
    → AreCandidates facts atom known all → AreFrom (first_from from) all found → AreLeft atom rest facts known from found
AreLeft-first atom rest facts known from all found served cut = record { among = among }
  where
    among : (m : Term → Term) (place : ℕ) (places : List ℕ) → Keeps Const m → Extends m known → IsMatch m (atom ∷ rest) facts (place ∷ places)
        → IsAtMost from (place ∷ places) → Contains found place
    among m place places keeps extends match after =
        cut.complete place (served.complete m place keeps extends match.0) (first_is_least from place places after)

module _ (atom : Fact Term) (rest facts : List (Fact Term)) (known : Assignment) (from : List ℕ) (found : List ℕ)
    (rising : IsRising found) where
  module _ (i : ℕ) (left : AreLeft atom rest facts known from (drop i found)) where
    pub AreLeft-end : length found ≤ i → HasNoMatch (atom ∷ rest) facts known (IsAtMost from)
    AreLeft-end end m [] keeps extends match after = match
    AreLeft-end end m (place ∷ places) keeps extends match after =
        Contains-nil place (subst (λ ps. Contains ps place) (drop_all i found end) (left.among m place places keeps extends match after))

    module _ (here : ℕ) (within : i < length found) (read : here ≡ get_or found i here) where
      next_left : drop i found ≡ here ∷ drop (i + 1) found
      next_left = drop-item found i here within read

      pub AreLeft-next : NoneAt atom rest facts known from here → AreLeft atom rest facts known from (drop (i + 1) found)
      AreLeft-next none = record { among = later }
        where
          later : (m : Term → Term) (place : ℕ) (places : List ℕ) → Keeps Const m → Extends m known → IsMatch m (atom ∷ rest) facts (place ∷ places)
              → IsAtMost from (place ∷ places) → Contains (drop (i + 1) found) place
          later m place places keeps extends match after =
              let has = left.among m place places keeps extends match after in
              elim (Contains-cases here (drop (i + 1) found) place (subst (λ ps. Contains ps place) next_left has)) [
                | inl same ↦ absurd (none m places keeps extends (subst (λ p. IsMatch m (atom ∷ rest) facts (p ∷ places)) (sym same) match)
                    (subst (λ p. IsAtMost from (p ∷ places)) (sym same) after))
                | inr more ↦ more
              ]

      pub AreLeft-low : NoneBelow atom rest facts known from here
      AreLeft-low = record { at_or_after = low }
        where
          low : (m : Term → Term) (place : ℕ) (places : List ℕ) → Keeps Const m → Extends m known → IsMatch m (atom ∷ rest) facts (place ∷ places)
              → IsAtMost from (place ∷ places) → here ≤ place
          low m place places keeps extends match after =
              let has = left.among m place places keeps extends match after in
              let at : get_or found (i + has.0) place ≡ place = sym (get_or-drop i found has.0 place) ∙ has.2 in
              let long : has.0 < length found - i = omega (arith, has.1, length-drop i found) in
              let own : get_or found i place ≡ here = sym (get_or_read found i here within read place) in
              let up = rising i (i + has.0) place (omega arith) (omega (arith, long)) in
              omega (arith, up, at, own)

-- ---- what a search leaves

IsLeastFrom-nil : (facts : List (Fact Term)) (known : Assignment) → IsLeastFrom [] facts [] known known []
IsLeastFrom-nil facts known = record {
  matches = λ m keeps. (λ extends. (extends, tt), λ both. both.0);
  within = IsAtMost-nil [];
  least = λ m others keeps extends match after. IsAtMost-nil others;
}

pub Searched-nil : (start : Assignment) (facts : List (Fact Term)) (from places : List ℕ) (trail : List Binding) (is_empty : Bool)
    → is_empty ≡ eqb (length from) 0 → Searched start [] facts from trail trail places places is_empty
Searched-nil start facts [] places trail true e = ([], sym (append-nil places), Grew-same trail, IsLeastFrom-nil facts (with_trail start trail))
Searched-nil start facts (x ∷ xs) places trail true e = absurd (grind (arith, nat_tests))
Searched-nil start facts [] places trail false e = absurd (cc)
Searched-nil start facts (x ∷ xs) places trail false e = (refl, refl, none)
  where
    none : HasNoMatch [] facts (with_trail start trail) (IsAtMost (x ∷ xs))
    none m [] keeps extends match after = after refl
    none m (p ∷ ps) keeps extends match after = match

module _ (start : Assignment) (atom : Fact Term) (rest facts : List (Fact Term)) (from : List ℕ) (here : ℕ)
    (old now : List Binding) (same : now ≡ old) (none : NoneBelow atom rest facts (with_trail start old) from here) where
  -- the map sends the atom to the fact at the place
  abbrev pub Here : (Term → Term) → Type 0
  Here m = slice_get facts here ≡ Some (image m atom)

  tried_first : (new : List Binding) (outcome : Bool) → Tries start now new outcome Here → Tries start old new outcome Here
  tried_first new outcome tried = subst (λ trail. Tries start trail new outcome Here) same tried

  pub Searched-found : (mid new : List Binding) (inner places_old places_now places_mid places_new : List ℕ) → places_now ≡ places_old
      → inner ≡ rest_from from here → places_mid ≡ places_now ++ here ∷ [] → first_from from ≤ here → Tries start now mid true Here
      → Searched start rest facts inner mid new places_mid places_new true → Searched start (atom ∷ rest) facts from old new places_old places_new true
  Searched-found mid new inner places_old places_now places_mid places_new same_places is_inner pushed low tried found =
      let step = tried_first mid true tried in
      let least : IsLeastFrom rest facts (rest_from from here) (with_trail start mid) (with_trail start new) found.0 =
      subst (λ f. IsLeastFrom rest facts f (with_trail start mid) (with_trail start new) found.0) is_inner found.3 in (
        here ∷ found.0,
        found.1 ∙ ap (λ z. z ++ found.0) (pushed ∙ ap (λ z. z ++ here ∷ []) same_places) ∙ append_assoc places_old (here ∷ []) found.0,
        Grew-then old mid new step.0 found.2,
        IsLeastFrom-cons atom rest facts (with_trail start old) from here (with_trail start mid) (with_trail start new) found.0 none low step.1 least,
      )

  pub NoneAt-back : (mid new : List Binding) (inner places_mid places_new : List ℕ) → inner ≡ rest_from from here
      → Tries start now mid true Here → Searched start rest facts inner mid new places_mid places_new false
      → NoneAt atom rest facts (with_trail start old) from here
  NoneAt-back mid new inner places_mid places_new is_inner tried missed =
      let step = tried_first mid true tried in
      let no : HasNoMatch rest facts (with_trail start mid) (IsAtMost (rest_from from here)) =
      subst (λ f. HasNoMatch rest facts (with_trail start mid) (IsAtMost f)) is_inner missed.2 in
      no_rest atom rest facts (with_trail start old) from here (with_trail start mid) step.1 no

  pub NoneAt-skip : (new : List Binding) → Tries start now new false Here → NoneAt atom rest facts (with_trail start old) from here
  NoneAt-skip new tried =
      let step = tried_first new false tried in
      no_fact atom rest facts (with_trail start old) from here step.1

pub Searched-none : (start : Assignment) (atom : Fact Term) (rest facts : List (Fact Term)) (from : List ℕ) (old new : List Binding)
    (places_old places_new : List ℕ) → places_new ≡ places_old → new ≡ old → HasNoMatch (atom ∷ rest) facts (with_trail start old) (IsAtMost from)
    → Searched start (atom ∷ rest) facts from old new places_old places_new false
Searched-none start atom rest facts from old new places_old places_new same_places same none = (same_places, same, none)

-- ---- atoms of a body

pub flat_first : (atom : Fact Term) (rest : List (Fact Term)) → AreFlat (atom ∷ rest) → (term : Term) → Contains atom.terms term → IsFlat term
flat_first atom rest flat term inside = flat term (atom, Contains-head atom rest, inside)

pub flat_rest : (atom : Fact Term) (rest : List (Fact Term)) → AreFlat (atom ∷ rest) → AreFlat rest
flat_rest atom rest flat term (other, inside, at) = flat term (other, Contains-rest atom rest other inside, at)

-- ---- matches as answers

pub IsLeastMatch-searched : (start found : Assignment) (body facts : List (Fact Term)) (from : List ℕ) (old new : List Binding) (places_old places_new : List ℕ)
    → AreFlat body → old ≡ [] → places_old ≡ [] → found ≡ with_trail start new → Searched start body facts from old new places_old places_new true
    → IsLeastMatch body facts start (IsAtMost from) found places_new
IsLeastMatch-searched start found body facts from old new places_old places_new flat empty none is_found searched =
    let whole : searched.0 ≡ places_new = sym (searched.1 ∙ ap (λ z. z ++ searched.0) none) in
    let least : IsLeastFrom body facts from start found places_new =
    subst (λ ps. IsLeastFrom body facts from start found ps) whole
    (subst (λ f. IsLeastFrom body facts from start f searched.0) (sym is_found)
    (subst (λ trail. IsLeastFrom body facts from (with_trail start trail) (with_trail start new) searched.0) empty searched.3)) in
    record {
      is_found = record { exact = least.matches; variables = λ variable. found_variables body facts start found places_new flat least.matches variable };
      within = least.within;
      least = least.least;
    }

pub HasNoMatch-searched : (start : Assignment) (body facts : List (Fact Term)) (from : List ℕ) (old new : List Binding) (places_old places_new : List ℕ)
    → old ≡ [] → Searched start body facts from old new places_old places_new false → HasNoMatch body facts start (IsAtMost from)
HasNoMatch-searched start body facts from old new places_old places_new empty searched =
    subst (λ trail. HasNoMatch body facts (with_trail start trail) (IsAtMost from)) empty searched.2

-- ---- the same range, said another way for lists as long as the body, of places of facts

places_within : (m : Term → Term) (body facts : List (Fact Term)) (places : List ℕ) → IsMatch m body facts places → All (λ place. place < length facts) places
places_within m [] facts [] match = λ i d l. absurd (omega arith)
places_within m [] facts (p ∷ ps) match = absurd match
places_within m (a ∷ more) facts [] match = absurd match
places_within m (a ∷ more) facts (p ∷ ps) match =
    All-cons (λ place. place < length facts) p ps (slice_get_within facts p _ match.0) (places_within m more facts ps match.1)

module _ (body facts : List (Fact Term)) (start : Assignment) (after from : List ℕ) (follows : Follows after (length body) (length facts) from) where
  same : (m : Term → Term) (places : List ℕ) → IsMatch m body facts places → IsAtMost from places ↔ IsBefore after places
  same m places match = follows places (IsMatch-length m body facts places match) (places_within m body facts places match)

  IsLeastMatch-after : (found : Assignment) (places : List ℕ) → IsLeastMatch body facts start (IsAtMost from) found places
      → IsLeastMatch body facts start (IsBefore after) found places
  IsLeastMatch-after found places least =
      let match = ((least.is_found.exact (map_of found) (Keeps-map_of found)).0 (Extends-map_of found)).1 in
      record {
        is_found = least.is_found;
        within = (same (map_of found) places match).0 least.within;
        least = λ m others keeps extends other_match in_other. least.least m others keeps extends other_match ((same m others other_match).1 in_other);
      }

  pub if_least : (outcome : Option Found) → IfSome outcome (λ found. IsLeastMatch body facts start (IsAtMost from) found.valuation found.places)
      → IfSome outcome (λ found. IsLeastMatch body facts start (IsBefore after) found.valuation found.places)
  if_least None least = tt
  if_least (Some found) least = IsLeastMatch-after found.valuation found.places least

  pub if_none : (outcome : Option Found) → IfNone outcome (HasNoMatch body facts start (IsAtMost from))
      → IfNone outcome (HasNoMatch body facts start (IsBefore after))
  if_none None none = λ m places keeps extends match in_other. none m places keeps extends match ((same m places match).1 in_other)
  if_none (Some found) none = tt

-- an empty body has no match after a list of places
pub HasNoMatch-empty : (body facts : List (Fact Term)) (start : Assignment) (after : List ℕ) → body ≡ [] → HasNoMatch body facts start (IsBefore after)
HasNoMatch-empty body facts start after empty m places keeps extends match before =
    nothing after places before (nil_from_length places (IsMatch-length m body facts places match ∙ ap length empty))
  where
    nothing : (after places : List ℕ) → IsBefore after places → places ≡ [] → ⊥
    nothing [] [] before e = let never : Equal ≡ Less = before in cc
    nothing (p ∷ ps) [] before e = let never : Greater ≡ Less = before in cc
    nothing after (q ∷ qs) before e = cc
