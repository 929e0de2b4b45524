-- Families of sets: what covers, what stays an antichain, and that the kept sets are the minimal ones.
use Rattle.std.proofs.Common.{◌≡◌, ◌↔◌, ◌⊎◌, ℕ, suc, ◌+◌, ◌<◌, ◌≤◌, Bool, true, false, cond, not, ◌||◌, List, [], ◌∷◌, ◌++◌, length, filter, slice_index_or}
use Rattle.std.proofs.Common.{slice_get, get_or, IfSome, IsTrue, All, Contains, refl, sym, ap, ◌∙◌, subst, inl, inr, arith, append_assoc, append-nil}
use Rattle.std.proofs.lemmas.Bool.{cases_lt}
use Rattle.std.proofs.lemmas.List.{get_or_default}
use Rattle.std.proofs.lemmas.List.Elements.{All-filter, All-push, All-contains, All-nil, All-head, All-tail, Contains-append_left, Contains-get_or}
use Rattle.std.proofs.lemmas.List.Elements.{Contains-push, Contains-push_cases}
use Rattle.std.proofs.lemmas.List.Kept.{AllPairs-filter}
use Rattle.std.proofs.lemmas.List.Quantifiers.{all_pairs_push}
use Rattle.std.proofs.lemmas.Option.{slice_get-get_or}
use Rattle.esto_term.proofs.ListLemmas.{Contains-cases, Contains-filter, Contains-filter_from, Contains-nil, HoldsBelow, each_all, place-from_Contains}
use Rattle.esto_term.specs.Sets.{Has, Within, Covers, HaveCount, IsMinimal, AreMinimal, TellHolds}
use Rattle.esto_bits.specs.Kept.{is_within, AreOver, IsAntichain, in_place_of_supersets, is_covered, with_set, with_sets, OneMoreIsMinimal, KeptAreMinimal}
use Rattle.esto_term.proofs.SetLemmas.{within_refl, within_trans, within_same}
use Rattle.esto_bits.proofs.SetLemmas.{false-not_true, Within-from_test, test_from_Within}

-- ---- truth values

not-true : (answer : Bool) → not answer ≡ true → answer ≡ false
not-true true is = absurd (false-not_true is)
not-true false is = refl

false-not : (answer : Bool) → answer ≡ false → not answer ≡ true
false-not answer is = ap not is

-- a choice is made by cases
by_cases : {A : Type 0} (P : A → Type 0) (test : Bool) (one other : A) → (test ≡ true → P one) → (test ≡ false → P other) → P (cond test one other)
by_cases P true one other if_true if_false = if_true refl
by_cases P false one other if_true if_false = if_false refl

-- ---- covering

module _ (set : List Bool) where
  pub covered_from_test : (family : List (List Bool)) → is_covered family set ≡ true → Covers family set
  covered_from_test [] passes = absurd (false-not_true passes)
  covered_from_test (first ∷ rest) passes = go (is_within first set) refl passes (covered_from_test rest)
    where
      go : (test : Bool) → is_within first set ≡ test → test || is_covered rest set ≡ true → (is_covered rest set ≡ true → Covers rest set)
          → Covers (first ∷ rest) set
      go true is either later = (first, (0, omega arith, refl), Within-from_test first set is)
      go false is either later = let found = later either in (found.0, (suc found.1.0, omega (arith, found.1.1), found.1.2), found.2)

  pub test_from_covered : (family : List (List Bool)) → Covers family set → is_covered family set ≡ true
  test_from_covered [] covered = absurd (Contains-nil covered.0 covered.1)
  test_from_covered (first ∷ rest) covered = elim (Contains-cases first rest covered.0 covered.1) [
    | inl is ↦ ap (λ test. test || is_covered rest set) (test_from_Within first set (subst (λ member. Within member set) (sym is) covered.2))
    | inr later ↦ or_second (is_within first set) (is_covered rest set) (test_from_covered rest (covered.0, later, covered.2))
  ]
    where
      or_second : (one other : Bool) → other ≡ true → one || other ≡ true
      or_second true other is = refl
      or_second false other is = is

-- where a set is covered, it covers nothing that isn't
pub covered-already : (family : List (List Bool)) (row : List Bool) → is_covered family row ≡ true → (set : List Bool)
    → Covers family set ↔ (Covers family set ⊎ Within row set)
covered-already family row passes set = (
  λ covered. inl covered,
  λ either. elim either [
    | inl covered ↦ covered
    | inr within ↦ let by = covered_from_test row family passes in (by.0, by.1, within_trans by.0 row set by.2 within)
  ],
)

-- ---- antichains

-- of two members of an antichain the one is a subset of the other only where they are one
pub antichain-same : (sets : List (List Bool)) → IsAntichain sets → (set other : List Bool) → Contains sets set → Contains sets other → Within set other
    → set ≡ other
antichain-same sets antichain set other has has' within = elim (cases_lt has.0 has'.0) [
  | inl less ↦ absurd ((antichain has.0 has'.0 set less has'.1).0
      (λ number is. subst (λ row. Has row number) (sym (other_at set)) (within number (subst (λ row. Has row number) (set_at set) is))))
  | inr above ↦ elim (cases_lt has'.0 has.0) [
    | inl more ↦ absurd ((antichain has'.0 has.0 set more has.1).1
        (λ number is. subst (λ row. Has row number) (sym (other_at set)) (within number (subst (λ row. Has row number) (set_at set) is))))
    | inr same ↦ let one_place : has.0 ≡ has'.0 = omega arith in sym (set_at set) ∙ ap (λ place. slice_index_or sets place set) one_place ∙ other_at set
  ]
]
  where
    set_at : (d : List Bool) → slice_index_or sets has.0 d ≡ set
    set_at d = get_or_default sets has.0 d set has.1 ∙ has.2

    other_at : (d : List Bool) → slice_index_or sets has'.0 d ≡ other
    other_at d = get_or_default sets has'.0 d other has'.1 ∙ has'.2

-- ---- one set more

module _ (sets : List (List Bool)) (row : List Bool) where
  -- the kept sets that are no supersets of the new one
  abbrev others : List (List Bool)
  others = filter (λ set. not (is_within row set)) sets

  Contains-with_set : (set : List Bool) → Contains (with_set sets row) set → Contains sets set ⊎ (set ≡ row)
  Contains-with_set set =
      by_cases (λ kept. Contains kept set → Contains sets set ⊎ (set ≡ row)) (is_covered sets row) sets (others ++ row ∷ [])
      (λ covered has. inl has)
      (λ uncovered has. elim (Contains-push_cases others row set has)
      [ inl kept ↦ inl (Contains-filter_from (λ s. not (is_within row s)) sets set kept).0 | inr is ↦ inr (sym is) ])

  -- a set is covered afterwards exactly where it was, or where the new set covers it
  pub covered-with_set : (set : List Bool) → Covers (with_set sets row) set ↔ (Covers sets set ⊎ Within row set)
  covered-with_set set = (there, back)
    where
      there : Covers (with_set sets row) set → Covers sets set ⊎ Within row set
      there covered = elim (Contains-with_set covered.0 covered.1)
          [ inl kept ↦ inl (covered.0, kept, covered.2) | inr is ↦ inr (subst (λ member. Within member set) is covered.2) ]

      -- a kept set stays, or the new one is a subset of it
      stays : Covers sets set → Covers (others ++ row ∷ []) set
      stays covered = go (is_within row covered.0) refl
        where
          go : (test : Bool) → is_within row covered.0 ≡ test → Covers (others ++ row ∷ []) set
          go true is = (row, Contains-push others row, within_trans row covered.0 set (Within-from_test row covered.0 is) covered.2)
          go false is = (
            covered.0,
            Contains-append_left others (row ∷ []) covered.0
                (Contains-filter (λ s. not (is_within row s)) sets covered.0 covered.1 (false-not _ is)),
            covered.2,
          )

      back : Covers sets set ⊎ Within row set → Covers (with_set sets row) set
      back either =
          by_cases (λ kept. Covers kept set) (is_covered sets row) sets (others ++ row ∷ [])
          (λ passes. elim either [
            | inl covered ↦ covered
            | inr within ↦ let by = covered_from_test row sets passes in (by.0, by.1, within_trans by.0 row set by.2 within)
          ])
          (λ fails. elim either [ inl covered ↦ stays covered | inr within ↦ (row, Contains-push others row, within) ])

  pub antichain-with_set : IsAntichain sets → IsAntichain (with_set sets row)
  antichain-with_set antichain =
      by_cases IsAntichain (is_covered sets row) sets (others ++ row ∷ []) (λ passes. antichain)
      (λ fails.
      all_pairs_push (λ set other. (¬ (Within set other)) × (¬ (Within other set))) others row
      (AllPairs-filter (λ set other. (¬ (Within set other)) × (¬ (Within other set))) (λ s. not (is_within row s)) sets antichain)
      (λ place d within. apart fails (slice_index_or others place d) (at others place d within)))
    where
      at : (items : List (List Bool)) (place : ℕ) (d : List Bool) → place < length items → Contains items (slice_index_or items place d)
      at items place d within = (place, within, get_or_default items place _ d within)

      apart : is_covered sets row ≡ false → (set : List Bool) → Contains others set → (¬ (Within set row)) × (¬ (Within row set))
      apart fails set has =
          let kept = Contains-filter_from (λ s. not (is_within row s)) sets set has in (
            λ within. false-not_true (sym fails ∙ test_from_covered row sets (set, kept.0, within)),
            λ within. false-not_true (sym (not-true _ kept.1) ∙ test_from_Within row set within),
          )

  pub over-with_set : (count : ℕ) → AreOver count sets → length row ≡ count → AreOver count (with_set sets row)
  over-with_set count over is =
      by_cases (AreOver count) (is_covered sets row) sets (others ++ row ∷ []) (λ passes. over)
      (λ fails. All-push (λ set. length set ≡ count) others row (All-filter (λ s. not (is_within row s)) (λ set. length set ≡ count) sets over) is)

-- ---- the kept sets are the minimal ones

-- what products keep of a family of sets of one count
record KeepsOf (count : ℕ) (family sets : List (List Bool)) : Type 0 where
  pub over : AreOver count family
  pub antichain : IsAntichain sets
  pub within : (set : List Bool) → Contains sets set → Contains family set
  pub covers : (set : List Bool) → Contains family set → Covers sets set

keeps-none : (count : ℕ) → KeepsOf count [] []
keeps-none count = record {
  over = All-nil (λ set. length set ≡ count);
  antichain = λ i j d less within. absurd (omega arith);
  within = λ set has. has;
  covers = λ set has. absurd (Contains-nil set has);
}

keeps-one_more : (count : ℕ) (family sets : List (List Bool)) (row : List Bool) → length row ≡ count → KeepsOf count family sets
    → KeepsOf count (family ++ row ∷ []) (with_set sets row)
keeps-one_more count family sets row is keeps = record {
  over = All-push (λ set. length set ≡ count) family row keeps.over is;
  antichain = antichain-with_set sets row keeps.antichain;
  within = λ set has. elim (Contains-with_set sets row set has) [
    | inl kept ↦ Contains-append_left family (row ∷ []) set (keeps.within set kept)
    | inr same ↦ subst (Contains (family ++ row ∷ [])) (sym same) (Contains-push family row)
  ];
  covers = λ set has. (covered-with_set sets row set).1 (elim (Contains-push_cases family row set has) [
    | inl before ↦ inl (keeps.covers set before)
    | inr same ↦ inr (subst (Within row) same (within_refl row))
  ]);
}

keeps-all : (count : ℕ) (more family sets : List (List Bool)) → AreOver count more → KeepsOf count family sets
    → KeepsOf count (family ++ more) (with_sets sets more)
keeps-all count [] family sets over keeps = subst (λ all. KeepsOf count all sets) (sym (append-nil family)) keeps
keeps-all count (row ∷ rows) family sets over keeps =
    subst (λ all. KeepsOf count all (with_sets (with_set sets row) rows)) (append_assoc family (row ∷ []) rows)
    (keeps-all count rows (family ++ row ∷ []) (with_set sets row) (All-tail (λ set. length set ≡ count) row rows over)
    (keeps-one_more count family sets row (All-head (λ set. length set ≡ count) row rows over) keeps))

minimal_from_keeps : (count : ℕ) (family sets : List (List Bool)) → KeepsOf count family sets → AreMinimal family sets
minimal_from_keeps count family sets keeps = record {
  counted = λ set other has has'. count_of set has ∙ sym (count_of other has');
  exact = λ set. (there set, back set);
  once = λ i j d less within same. (keeps.antichain i j d less within).0
      (subst (Within (slice_index_or sets i d)) same (within_refl (slice_index_or sets i d)));
}
  where
    count_of : (set : List Bool) → Contains family set → length set ≡ count
    count_of set has = All-contains (λ s. length s ≡ count) family set keeps.over has

    there : (set : List Bool) → Contains sets set → IsMinimal (Contains family) set
    there set has = (
      keeps.within set has,
      λ other has' within.
          let by = keeps.covers other has' in
          let same : by.0 ≡ set = antichain-same sets keeps.antichain by.0 set by.1 has (within_trans by.0 other set by.2 within) in
          within_same other set (count_of other has' ∙ sym (count_of set (keeps.within set has))) within (subst (λ s. Within s other) same by.2),
    )

    back : (set : List Bool) → IsMinimal (Contains family) set → Contains sets set
    back set minimal = let by = keeps.covers set minimal.0 in subst (Contains sets) (minimal.1 by.0 (keeps.within by.0 by.1) by.2) by.1

pub kept_are_minimal : KeptAreMinimal
kept_are_minimal count family over = minimal_from_keeps count family (with_sets [] family) (keeps-all count family [] [] over (keeps-none count))

-- the minimal sets of a family, each once, are what products keep of it
keeps_from_minimal : (count : ℕ) (family sets : List (List Bool)) → AreOver count family → AreMinimal family sets → KeepsOf count family sets
keeps_from_minimal count family sets over minimal = record {
  over = over;
  antichain = λ i j d less within. (
    λ sub. minimal.once i j d less within (one_is sub (member i d (omega arith)) (member j d within)),
    λ sub. minimal.once i j d less within (sym (one_is sub (member j d within) (member i d (omega arith)))),
  );
  within = λ set has. ((minimal.exact set).0 has).0;
  covers = λ set has. let by = kept.covers set has in (by.0, (minimal.exact by.0).1 ((again.exact by.0).0 by.1), by.2);
}
  where
    kept : KeepsOf count family (with_sets [] family)
    kept = keeps-all count family [] [] over (keeps-none count)

    again : AreMinimal family (with_sets [] family)
    again = minimal_from_keeps count family (with_sets [] family) kept

    member : (place : ℕ) (d : List Bool) → place < length sets → Contains sets (slice_index_or sets place d)
    member place d within = (place, within, get_or_default sets place _ d within)

    one_is : {set other : List Bool} → Within set other → Contains sets set → Contains sets other → set ≡ other
    one_is {set} {other} sub has has' = ((minimal.exact other).0 has').1 set ((minimal.exact set).0 has).0 sub

pub one_more_is_minimal : OneMoreIsMinimal
one_more_is_minimal count family sets row over is minimal =
    minimal_from_keeps count (family ++ row ∷ []) (with_set sets row)
    (keeps-one_more count family sets row is (keeps_from_minimal count family sets over minimal))

-- ---- a filter that keeps all

-- where all items pass the filter keeps all
pub filter-all : {A : Type 0} (test : A → Bool) (items : List A) → All (λ item. test item ≡ true) items → filter test items ≡ items
filter-all test [] all = refl
filter-all test (first ∷ rest) all =
    ap (λ passes. cond passes (first ∷ filter test rest) (filter test rest)) (All-head (λ item. test item ≡ true) first rest all)
    ∙ ap (λ kept. first ∷ kept) (filter-all test rest (All-tail (λ item. test item ≡ true) first rest all))

-- ---- the code that adds a set

-- a set that isn't covered goes to the end, in place of its supersets
pub with_set-uncovered : (sets : List (List Bool)) (row : List Bool) → ¬ (Covers sets row) → in_place_of_supersets sets row ≡ with_set sets row
with_set-uncovered sets row none = go (is_covered sets row) refl
  where
    go : (test : Bool) → is_covered sets row ≡ test → in_place_of_supersets sets row ≡ with_set sets row
    go true is = absurd (none (covered_from_test row sets is))
    go false is = ap (λ test. cond test sets (in_place_of_supersets sets row)) (sym is)

-- a covered set changes nothing
pub with_set-covered : (sets : List (List Bool)) (row : List Bool) → Covers sets row → sets ≡ with_set sets row
with_set-covered sets row covered = ap (λ test. cond test sets (in_place_of_supersets sets row)) (sym (test_from_covered row sets covered))

-- one set of the others is covered, or it isn't
module _ (sets others : List (List Bool)) (at : ℕ) where
  pub covers_there : at < length others → (answer : Bool) → IfSome (slice_get others at) (λ set. IsTrue answer ↔ Covers sets set)
      → ((set : List Bool) → Covers others set → Covers sets set) → IsTrue answer
  covers_there below answer says all =
      let here = get_or others at [] in
      (subst (λ it. IfSome it (λ set. IsTrue answer ↔ Covers sets set)) (slice_get-get_or others at [] below) says).1
      (all here (here, Contains-get_or others at [] below, within_refl here))

  pub covers_next : (answer : Bool) → IfSome (slice_get others at) (λ set. IsTrue answer ↔ Covers sets set) → answer ≡ true
      → HoldsBelow (λ _ low. Covers sets low) others at → HoldsBelow (λ _ low. Covers sets low) others (at + 1)
  covers_next answer says holds before place low below there = elim (cases_lt place at) [
    | inl early ↦ before place low early there
    | inr late ↦
        let last : place ≡ at = omega (arith, below, late) in
        (subst (λ it. IfSome it (λ set. IsTrue answer ↔ Covers sets set)) (ap (slice_get others) (sym last) ∙ there) says).0 holds
  ]

-- where each set of the others is covered, all that they cover is
pub covers_each : (sets others : List (List Bool)) (count : ℕ) → length others ≤ count → HoldsBelow (λ _ low. Covers sets low) others count
    → (set : List Bool) → Covers others set → Covers sets set
covers_each sets others count l so_far set (low, inside, within) =
    let at = place-from_Contains others low inside in
    let found = (each_all (λ _ it. Covers sets it) others count l).0 so_far at.0 low at.1 in
    (found.0, found.1, within_trans found.0 low set found.2 within)

-- ---- an antichain that tells where something holds has the minimal sets in which it holds

module _ (count : ℕ) (P : List Bool → Type 0) (counted : HaveCount count P) (sets : List (List Bool)) (over : AreOver count sets)
    (tell : TellHolds count P sets) where
  pub told_itself : (set : List Bool) → Contains sets set → P set
  told_itself set inside = (tell set (All-contains (λ it. length it ≡ count) sets set over inside)).0 (set, inside, within_refl set)

  pub told_are_minimal : (set : List Bool) → IsMinimal P set ↔ IsMinimal (Contains sets) set
  told_are_minimal set = (
    λ (holds, least).
        let low = (tell set (counted set holds)).1 holds in
        (subst (Contains sets) (least low.0 (told_itself low.0 low.1) low.2) low.1, λ other inside within. least other (told_itself other inside) within),
    λ (inside, least). (
      told_itself set inside,
      λ other holds within.
          let low = (tell other (counted other holds)).1 holds in
          let same : low.0 ≡ set = least low.0 low.1 (within_trans low.0 other set low.2 within) in
          within_same other set (counted other holds ∙ sym (counted set (told_itself set inside))) within (subst (λ it. Within it other) same low.2),
    ),
  )

  pub antichain_is_minimal : IsAntichain sets → (set : List Bool) → Contains sets set ↔ IsMinimal P set
  antichain_is_minimal antichain set = (
    λ inside. (told_are_minimal set).1 (inside, λ other there within. antichain-same sets antichain other set there inside within),
    λ minimal. ((told_are_minimal set).0 minimal).0,
  )
