-- What is kept after several sets, and what it covers.
use Rattle.std.proofs.Common.{◌≡◌, ◌↔◌, ◌⊎◌, ℕ, ◌+◌, ◌<◌, Bool, List, [], ◌∷◌, ◌++◌, length, map, take, get_or, slice_get, Some, IfSome, IsTrue, true, Contains}
use Rattle.std.specs.Prelude.{Result, Ok, Err, OnErr}
use Rattle.std.proofs.Common.{refl, sym, ap, ◌∙◌, subst, inl, inr, arith, append_assoc, append-nil}
use Rattle.std.proofs.lemmas.List.{get_or_append_left, get_or_at, length-append, map-append, nil_from_length}
use Rattle.std.proofs.lemmas.List.Elements.{Contains-append_left, Contains-append_right, Contains-append_cases}
use Rattle.esto_term.proofs.ListLemmas.{Contains-at, Contains-cases, Contains-head, Contains-map, Contains-map_from, Contains-nil, Contains-rest, thing_at}
use Rattle.esto_term.proofs.PlaceLemmas.{take-there}
use Rattle.esto_term.specs.Sets.{Within, Covers, united}
use Rattle.esto_term.proofs.SetLemmas.{has_united, within_refl}
use Rattle.esto_bits.specs.Kept.{with_set, with_sets, unions, AddsOfBoth, CoverAlikeBeside, CoversAlso, CoversAlsoBeside, CoversBoth, CoversEither}
use Rattle.esto_bits.specs.Kept.{HasFirst, IsAntichain}
use Rattle.esto_bits.proofs.FamilyLemmas.{covered-with_set, with_set-uncovered}
use Rattle.esto_bits.proofs.PackedLemmas.{none_left_out}
use Rattle.esto_bits.proofs.ProductLemmas.{same_there}

-- ---- what a family covers

pub covers_none : (set : List Bool) → Covers [] set → ⊥
covers_none set covered = Contains-nil covered.0 covered.1

pub covers_itself : (family : List (List Bool)) (set : List Bool) → Contains family set → Covers family set
covers_itself family set inside = (set, inside, within_refl set)

pub covers_cons : (one : List Bool) (family : List (List Bool)) (set : List Bool) → Covers (one ∷ family) set ↔ (Within one set ⊎ Covers family set)
covers_cons one family set = (
  λ (low, inside, within). elim (Contains-cases one family low inside)
      [ inl is ↦ inl (subst (λ it. Within it set) (sym is) within) | inr later ↦ inr (low, later, within) ],
  λ h. elim h [ inl within ↦ (one, Contains-head one family, within) | inr (low, inside, within) ↦ (low, Contains-rest one family low inside, within) ],
)

pub covers_append : (family others : List (List Bool)) (set : List Bool) → Covers (family ++ others) set ↔ (Covers family set ⊎ Covers others set)
covers_append family others set = (
  λ (low, inside, within). elim (Contains-append_cases family others low inside) [ inl left ↦ inl (low, left, within) | inr right ↦ inr (low, right, within) ],
  λ h. elim h [
    | inl (low, inside, within) ↦ (low, Contains-append_left family others low inside, within)
    | inr (low, inside, within) ↦
        (low, Contains-append_right family others low inside, within)
  ],
)

pub within_united : (one other set : List Bool) → Within (united one other) set ↔ (Within one set × Within other set)
within_united one other set = (
  λ within. (λ number has. within number ((has_united one other number).1 (inl has)), λ number has. within number ((has_united one other number).1 (inr has))),
  λ (left, right) number has. elim ((has_united one other number).0 has) [ inl here ↦ left number here | inr there ↦ right number there ],
)

pub covers_united : (one : List Bool) (others : List (List Bool)) (set : List Bool)
    → Covers (map (united one) others) set ↔ (Within one set × Covers others set)
covers_united one others set = (
  λ (low, inside, within).
      let from = Contains-map_from (united one) others low inside in
      let both = (within_united one from.0 set).0 (subst (λ it. Within it set) (sym from.2) within) in (both.0, (from.0, from.1, both.1)),
  λ (within, (low, inside, low_within)). (united one low, Contains-map (united one) others low inside, (within_united one low set).1 (within, low_within)),
)

pub covers_unions : (family others : List (List Bool)) → CoversBoth family others (unions family others)
covers_unions [] others set = (λ h. absurd (covers_none set h), λ h. absurd (covers_none set h.0))
covers_unions (one ∷ family) others set =
    let rest = covers_unions family others set in (
      λ h. elim ((covers_append (map (united one) others) (unions family others) set).0 h) [
        | inl here ↦ (let both = (covers_united one others set).0 here in ((covers_cons one family set).1 (inl both.0), both.1))
        | inr later ↦ ((covers_cons one family set).1 (inr (rest.0 later).0), (rest.0 later).1)
      ],
      λ (covered, others_cover). (covers_append (map (united one) others) (unions family others) set).1 (elim ((covers_cons one family set).0 covered) [
        | inl within ↦ inl ((covers_united one others set).1 (within, others_cover))
        | inr later ↦ inr (rest.1 (later, others_cover))
      ]),
    )

-- ---- what is kept after several sets

pub with_sets-append : (sets rows more : List (List Bool)) → with_sets sets (rows ++ more) ≡ with_sets (with_sets sets rows) more
with_sets-append sets [] more = refl
with_sets-append sets (row ∷ rows) more = with_sets-append (with_set sets row) rows more

pub covers-with_sets : (sets rows : List (List Bool)) → CoversEither sets rows (with_sets sets rows)
covers-with_sets sets [] set = (inl, λ h. elim h [ inl before ↦ before | inr none ↦ absurd (covers_none set none) ])
covers-with_sets sets (row ∷ rows) set =
    let first = covered-with_set sets row set in
    let rest = covers-with_sets (with_set sets row) rows set in (
      λ h. elim (rest.0 h) [
        | inl earlier ↦ elim (first.0 earlier) [ inl before ↦ inl before | inr within ↦ inr ((covers_cons row rows set).1 (inl within)) ]
        | inr later ↦ inr ((covers_cons row rows set).1 (inr later))
      ],
      λ h. rest.1 (elim h [
        | inl before ↦ inl (first.1 (inl before))
        | inr added ↦ elim ((covers_cons row rows set).0 added) [ inl within ↦ inl (first.1 (inr within)) | inr later ↦ inr later ]
      ]),
    )

-- where an error comes, the first few sets are added
pub has_first : {T E : Type 0} (result : Result T E) (sets rows later : List (List Bool)) (count : ℕ) → later ≡ with_sets sets (take count rows)
    → OnErr result (HasFirst sets rows later)
has_first (Ok value) sets rows later count is = tt
has_first (Err error) sets rows later count is = (count, is)

-- ---- turns of loops over the sets that are added

-- the union of the sets at two places
pub united_there : (earlier later sets : List (List Bool)) (at : ℕ) (others : List (List Bool)) (place : ℕ) (one row : List Bool)
    → slice_get sets at ≡ Some one → IfSome (slice_get others place) (λ set. row ≡ united one set) → later ≡ with_set earlier row
    → (set other : List Bool) → slice_get sets at ≡ Some set → slice_get others place ≡ Some other → later ≡ with_set earlier (united set other)
united_there earlier later sets at others place one row own is now set other there its =
    now ∙ ap (with_set earlier)
    (subst (λ it. IfSome it (λ set. row ≡ united one set)) its is ∙ ap (λ it. united it other) (same_there sets at one set own there))

module _ (start sets after items : List (List Bool)) (index : ℕ) (set : List Bool) (there : slice_get items index ≡ Some set) where
  taken : take (index + 1) items ≡ take index items ++ set ∷ []
  taken = take-there items index set there

  pub added_next : after ≡ with_set sets set → sets ≡ with_sets start (take index items) → after ≡ with_sets start (take (index + 1) items)
  added_next now before =
      now ∙ ap (λ kept. with_set kept set) before ∙ sym (with_sets-append start (take index items) (set ∷ [])) ∙ ap (with_sets start) (sym taken)

  pub united_next : (one : List Bool) → after ≡ with_set sets (united one set) → sets ≡ with_sets start (map (united one) (take index items))
      → after ≡ with_sets start (map (united one) (take (index + 1) items))
  united_next one now before =
      now ∙ ap (λ kept. with_set kept (united one set)) before ∙ sym (with_sets-append start (map (united one) (take index items)) (united one set ∷ []))
      ∙ ap (with_sets start) (sym (map-append (united one) (take index items) (set ∷ []))) ∙ ap (λ some. with_sets start (map (united one) some)) (sym taken)

  pub joined_next : (others : List (List Bool)) → after ≡ with_sets sets (map (united set) others) → sets ≡ with_sets start (unions (take index items) others)
      → after ≡ with_sets start (unions (take (index + 1) items) others)
  joined_next others now before =
      now ∙ ap (λ kept. with_sets kept (map (united set) others)) before
      ∙ sym (with_sets-append start (unions (take index items) others) (map (united set) others))
      ∙ ap (with_sets start) (sym (unions-push (take index items))) ∙ ap (λ some. with_sets start (unions some others)) (sym taken)
    where
      unions-push : (family : List (List Bool)) → unions (family ++ set ∷ []) others ≡ unions family others ++ map (united set) others
      unions-push [] = append-nil (map (united set) others)
      unions-push (one ∷ family) = ap (λ rest. map (united one) others ++ rest) (unions-push family)
          ∙ sym (append_assoc (map (united one) others) (unions family others) (map (united set) others))

-- what products that were joined from none cover
pub covers-joined : (one other : List (List Bool)) → CoversBoth one other (with_sets [] (unions one other))
covers-joined one other set =
    let kept = covers-with_sets [] (unions one other) set in
    let both = covers_unions one other set in (
      λ h. elim (kept.0 h) [ inl none ↦ absurd (covers_none set none) | inr there ↦ both.0 there ],
      λ h. kept.1 (inr (both.1 h)),
    )

-- ---- an antichain is kept as it is

module _ (front rest : List (List Bool)) (row : List Bool) (antichain : IsAntichain (front ++ row ∷ rest)) where
  apart : (low : List Bool) → Contains front low → (¬ (Within low row)) × (¬ (Within row low))
  apart low (place, below, is) =
      let inside : length front < length (front ++ row ∷ rest) = omega (arith, length-append front (row ∷ rest)) in
      let low_at : get_or (front ++ row ∷ rest) place low ≡ low = get_or_append_left front (row ∷ rest) low place below ∙ is in
      let row_at : get_or (front ++ row ∷ rest) (length front) low ≡ row = get_or_at front row rest low (length front) refl in
      let both = antichain place (length front) low below inside in (
        λ within. both.0 (subst (λ it. Within it (get_or (front ++ row ∷ rest) (length front) low)) (sym low_at) (subst (Within low) (sym row_at) within)),
        λ within. both.1 (subst (Within (get_or (front ++ row ∷ rest) (length front) low)) (sym low_at) (subst (λ it. Within it low) (sym row_at) within)),
      )

  put_last : with_set front row ≡ front ++ row ∷ []
  put_last =
      sym (with_set-uncovered front row (λ (low, inside, within). (apart low inside).0 within))
      ∙ ap (λ them. them ++ row ∷ []) (none_left_out front row (λ (low, inside, within). (apart low inside).1 within))

with_sets-behind : (front rest : List (List Bool)) → IsAntichain (front ++ rest) → with_sets front rest ≡ front ++ rest
with_sets-behind front [] antichain = sym (append-nil front)
with_sets-behind front (row ∷ rest) antichain =
    ap (λ them. with_sets them rest) (put_last front rest row antichain)
    ∙ with_sets-behind (front ++ row ∷ []) rest (subst IsAntichain (sym (append_assoc front (row ∷ []) rest)) antichain)
    ∙ append_assoc front (row ∷ []) rest

pub with_sets-antichain : (none sets : List (List Bool)) → length none ≡ 0 → IsAntichain sets → sets ≡ with_sets none sets
with_sets-antichain none sets empty antichain =
    sym (with_sets-behind [] sets antichain) ∙ ap (λ start. with_sets start sets) (sym (nil_from_length none empty))

-- ---- unions of two families, where some sets go on alone

cover_up : (sets : List (List Bool)) (set own : List Bool) → Covers sets set → Within set own → Covers sets own
cover_up sets set own (low, inside, within) up = (low, inside, λ number has. up number (within number has))

-- the set at a place, where a test has told whether it covers one of the others
covered_at : (sets others : List (List Bool)) (at : ℕ) (answer : Bool) → IfSome (slice_get sets at) (λ set. IsTrue answer ↔ Covers others set)
    → answer ≡ true → (row : List Bool) → slice_get sets at ≡ Some row → Covers others row
covered_at sets others at answer says told row there = (subst (λ it. IfSome it (λ set. IsTrue answer ↔ Covers others set)) there says).0 told

-- a set that covers one of the others
pub alone : (earlier sets others later : List (List Bool)) (at : ℕ) → at < length sets → (answer : Bool)
    → IfSome (slice_get sets at) (λ set. IsTrue answer ↔ Covers others set) → answer ≡ true
    → ((set : List Bool) → slice_get sets at ≡ Some set → later ≡ with_set earlier set) → AddsOfBoth earlier sets others later
alone earlier sets others later at below answer says told now set =
    let (row, there) = thing_at sets at below in
    let also : CoversAlso earlier row later = subst (CoversAlso earlier row) (sym (now row there)) (covered-with_set earlier row) in (
      λ before. (also set).1 (inl before),
      λ covers. elim ((also set).0 covers) [
        | inl before ↦ inl before
        | inr within ↦ inr ((row, Contains-at sets at row there, within), cover_up others row set (covered_at sets others at answer says told row there) within)
      ],
    )

pub adds_none : (sets others earlier : List (List Bool)) → AddsOfBoth earlier sets others earlier
adds_none sets others earlier set = (λ before. before, λ covers. inl covers)

pub adds_then : (sets others first second third : List (List Bool)) → AddsOfBoth first sets others second → AddsOfBoth second sets others third
    → AddsOfBoth first sets others third
adds_then sets others first second third one other set = (
  λ before. (other set).0 ((one set).0 before),
  λ covers. elim ((other set).1 covers) [ inl middle ↦ (one set).1 middle | inr both ↦ inr both ],
)

pub adds_turned : (sets others first second : List (List Bool)) → AddsOfBoth first others sets second → AddsOfBoth first sets others second
adds_turned sets others first second adds set = (
  (adds set).0,
  λ covers. elim ((adds set).1 covers) [ inl before ↦ inl before | inr both ↦ inr (both.1, both.0) ],
)

-- sets that are left
covered_out : (others earlier : List (List Bool)) (row : List Bool) → Covers others row → CoversAlsoBeside others earlier row earlier
covered_out others earlier row covered set = (
  λ which. elim which [ inl before ↦ inl (inl before) | inr its ↦ inr its ],
  λ which. elim which [
    | inl either ↦ elim either [ inl before ↦ inl before | inr within ↦ inr (cover_up others row set covered within) ]
    | inr its ↦ inr its
  ],
)

uncovered_in : (others earlier later : List (List Bool)) (row : List Bool) → CoversAlso earlier row later → CoversAlsoBeside others earlier row later
uncovered_in others earlier later row also set = (
  λ which. elim which [ inl covers ↦ inl ((also set).0 covers) | inr its ↦ inr its ],
  λ which. elim which [ inl either ↦ inl ((also set).1 either) | inr its ↦ inr its ],
)

module _ (earlier sets others : List (List Bool)) (at : ℕ) (below : at < length sets) where
  pub left_out : (answer : Bool) → IfSome (slice_get sets at) (λ set. IsTrue answer ↔ Covers others set) → answer ≡ true
      → (set : List Bool) × (slice_get sets at ≡ Some set) × CoversAlsoBeside others earlier set earlier
  left_out answer says told =
      let (row, there) = thing_at sets at below in
      (row, there, covered_out others earlier row (covered_at sets others at answer says told row there))

  pub left_in : (later : List (List Bool)) → ((set : List Bool) → slice_get sets at ≡ Some set → later ≡ with_set earlier set)
      → (set : List Bool) × (slice_get sets at ≡ Some set) × CoversAlsoBeside others earlier set later
  left_in later now =
      let (row, there) = thing_at sets at below in
      (row, there, uncovered_in others earlier later row (subst (CoversAlso earlier row) (sym (now row there)) (covered-with_set earlier row)))

-- the sets so far, beside what the others cover
abbrev pub LeftSoFar : List (List Bool) → List (List Bool) → ℕ → List (List Bool) → Type 0
LeftSoFar others sets at left = CoverAlikeBeside others (take at sets) left

pub left_none : (others sets left : List (List Bool)) → left ≡ [] → LeftSoFar others sets 0 left
left_none others sets left none set = rw none (λ which. which, λ which. which)

pub left_turn : (others sets left later : List (List Bool)) (at : ℕ) → LeftSoFar others sets at left
    → (row : List Bool) × (slice_get sets at ≡ Some row) × CoversAlsoBeside others left row later → LeftSoFar others sets (at + 1) later
left_turn others sets left later at so_far (row, there, also) set = rw (take-there sets at row there) (
  λ which. (also set).1 (elim which [
    | inl covers ↦ elim ((covers_append (take at sets) (row ∷ []) set).0 covers) [
      | inl before ↦ elim ((so_far set).0 (inl before)) [ inl kept ↦ inl (inl kept) | inr its ↦ inr its ]
      | inr last ↦ elim ((covers_cons row [] set).0 last) [ inl within ↦ inl (inr within) | inr none ↦ absurd (covers_none set none) ]
    ]
    | inr its ↦ inr its
  ]),
  λ which. elim ((also set).0 which) [
    | inl either ↦ elim either [
      | inl kept ↦ elim ((so_far set).1 (inl kept)) [ inl before ↦ inl ((covers_append (take at sets) (row ∷ []) set).1 (inl before)) | inr its ↦ inr its ]
      | inr within ↦ inl ((covers_append (take at sets) (row ∷ []) set).1 (inr ((covers_cons row [] set).1 (inl within))))
    ]
    | inr its ↦ inr its
  ],
)

pub alike_itself : (others sets : List (List Bool)) → CoverAlikeBeside others sets sets
alike_itself others sets set = (λ which. which, λ which. which)

-- what the unions of two families add
pub unions_enough : (earlier ones rest later : List (List Bool)) → later ≡ with_sets earlier (unions ones rest)
    → (set : List Bool) → Covers later set ↔ (Covers earlier set ⊎ (Covers ones set × Covers rest set))
unions_enough earlier ones rest later is set =
    let kept = covers-with_sets earlier (unions ones rest) set in
    let both = covers_unions ones rest set in rw is (
      λ covers. elim (kept.0 covers) [ inl before ↦ inl before | inr new ↦ inr (both.0 new) ],
      λ which. kept.1 (elim which [ inl before ↦ inl before | inr new ↦ inr (both.1 new) ]),
    )

-- what is left of two families adds as much as they
pub rest_enough : (sets others earlier ones rest later : List (List Bool)) → CoverAlikeBeside earlier sets ones → CoverAlikeBeside earlier others rest
    → ((set : List Bool) → Covers later set ↔ (Covers earlier set ⊎ (Covers ones set × Covers rest set)))
    → (set : List Bool) → Covers later set ↔ (Covers earlier set ⊎ (Covers sets set × Covers others set))
rest_enough sets others earlier ones rest later left left' adds set = (
  λ covers. elim ((adds set).0 covers) [
    | inl before ↦ inl before
    | inr (own, its) ↦ elim ((left set).1 (inl own)) [
      | inl one ↦ elim ((left' set).1 (inl its)) [ inl other ↦ inr (one, other) | inr before ↦ inl before ]
      | inr before ↦ inl before
    ]
  ],
  λ which. (adds set).1 (elim which [
    | inl before ↦ inl before
    | inr (one, other) ↦ elim ((left set).0 (inl one)) [
      | inl own ↦ elim ((left' set).0 (inl other)) [ inl its ↦ inr (own, its) | inr before ↦ inl before ]
      | inr before ↦ inl before
    ]
  ]),
)

pub adds_all : (sets others first second later : List (List Bool)) → AddsOfBoth first sets others second
    → ((set : List Bool) → Covers later set ↔ (Covers second set ⊎ (Covers sets set × Covers others set)))
    → (set : List Bool) → Covers later set ↔ (Covers first set ⊎ (Covers sets set × Covers others set))
adds_all sets others first second later adds then set = (
  λ covers. elim ((then set).0 covers) [ inl middle ↦ (adds set).1 middle | inr both ↦ inr both ],
  λ which. (then set).1 (elim which [ inl before ↦ inl ((adds set).0 before) | inr both ↦ inr both ]),
)
