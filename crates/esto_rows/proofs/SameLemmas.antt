-- Rows that are the same set, by marks at the places where they stand.
use Rattle.std.proofs.Common.{◌≡◌, ◌↔◌, inl, inr, ℕ, ◌+◌, ◌<◌, ◌≤◌, Bool, true, false, List, [], ◌∷◌, ◌++◌, length, get_or, set, take, Option, Some, None}
use Rattle.std.proofs.Common.{slice_get, Contains, refl, sym, ap, ◌∙◌, subst, arith, is_some, IsTrue, MatchOption}
use Rattle.std.proofs.lemmas.Bool.{cases_order, false≢true}
use Rattle.std.proofs.lemmas.Bool.Decides.{eqb_tells}
use Rattle.std.proofs.lemmas.List.{get_or-set_same, get_or-set_other, take_all}
use Rattle.std.proofs.lemmas.List.Elements.{Contains-append_left, Contains-push, Contains-push_cases}
use Rattle.std.proofs.lemmas.Option.{same_Some, slice_get_within}
use Rattle.esto_term.proofs.ListLemmas.{Contains-nil, Contains-at}
use Rattle.esto_term.proofs.PlaceLemmas.{take-there}
use Rattle.esto_columns.specs.RowIndexes.{StandsLast}
use Rattle.esto_rows.specs.Same.{IsPart, AreMarked}

-- ---- what is told where an answer is known

pub is_so : {P : Type 0} → P → IsTrue true ↔ P
is_so proof = (λ told. proof, λ it. refl)

pub is_not : {P : Type 0} → (P → ⊥) → IsTrue false ↔ P
is_not apart = (λ wrong. absurd (false≢true wrong), λ it. absurd (apart it))

-- ---- rows that are rows of others, one by one

pub part_none : (rows others : List (List ℕ)) → IsPart (take 0 rows) others
part_none rows others row inside = absurd (Contains-nil row inside)

pub part_more : (rows others : List (List ℕ)) (at : ℕ) (row : List ℕ) → slice_get rows at ≡ Some row → Contains others row → IsPart (take at rows) others
    → IsPart (take (at + 1) rows) others
part_more rows others at row there found before it inside =
    elim (Contains-push_cases (take at rows) row it (subst (λ them. Contains them it) (take-there rows at row there) inside)) [
      | inl old ↦ before it old
      | inr same ↦ subst (Contains others) same found
    ]

pub part_all : (rows others : List (List ℕ)) (count : ℕ) → length rows ≤ count → IsPart (take count rows) others → IsPart rows others
part_all rows others count past part = subst (λ them. IsPart them others) (take_all count rows past) part

-- a look-up that gives nothing, or a place
pub found_none : (rows : List (List ℕ)) (row : List ℕ) (found : Option ℕ) → MatchOption found (¬ (Contains rows row)) (StandsLast rows row)
    → is_some found ≡ false → Contains rows row → ⊥
found_none rows row None tells is = tells
found_none rows row (Some place) tells is = absurd (false≢true (sym is))

pub found_some : (rows : List (List ℕ)) (row : List ℕ) (found : Option ℕ) → MatchOption found (¬ (Contains rows row)) (StandsLast rows row)
    → is_some found ≡ true → Contains rows row
found_some rows row None tells is = absurd (false≢true is)
found_some rows row (Some place) tells is = Contains-at rows place row tells.at

-- ---- the same list

pub one_list_more : (rows others : List (List ℕ)) (at : ℕ) (row : List ℕ) → slice_get rows at ≡ Some row → slice_get others at ≡ Some row
    → take at rows ≡ take at others → take (at + 1) rows ≡ take (at + 1) others
one_list_more rows others at row here there before =
    take-there rows at row here ∙ ap (λ it. it ++ row ∷ []) before ∙ sym (take-there others at row there)

pub one_list : (rows others : List (List ℕ)) (count : ℕ) → length rows ≤ count → length rows ≡ length others
    → take count rows ≡ take count others → rows ≡ others
one_list rows others count past long same =
    sym (take_all count rows past) ∙ same ∙ take_all count others (subst (λ it. it ≤ count) long past)

pub one_list_same : (rows others : List (List ℕ)) → rows ≡ others → (row : List ℕ) → Contains rows row ↔ Contains others row
one_list_same rows others same row = (subst (λ them. Contains them row) same, subst (λ them. Contains them row) (sym same))

-- ---- marks

pub marked_none : (rows : List (List ℕ)) (marks : List Bool) → ((at : ℕ) → get_or marks at false ≡ false) → AreMarked rows [] marks
marked_none rows marks none place = (
  λ is. absurd (false≢true (sym (none place) ∙ is)),
  λ found. absurd (Contains-nil found.0 found.1),
)

pub one_place : (rows : List (List ℕ)) (row : List ℕ) (place other : ℕ) → StandsLast rows row place → StandsLast rows row other → place ≡ other
one_place rows row place other here there = elim (cases_order place other) [
  | inl same ↦ same
  | inr (inl under) ↦ absurd (here.last other under there.at)
  | inr (inr above) ↦ absurd (there.last place above here.at)
]

pub marked_more : (rows others : List (List ℕ)) (row : List ℕ) (place : ℕ) (marks : List Bool) → length marks ≡ length rows → StandsLast rows row place
    → AreMarked rows others marks → AreMarked rows (others ++ row ∷ []) (set marks place true)
marked_more rows others row place marks long stands are at = elim (eqb_tells at place) [
  | inl same ↦ (
    (λ is. (row, Contains-push others row, subst (StandsLast rows row) (sym same.1) stands)),
    (λ found. ap (λ n. get_or (set marks place true) n false) same.1 ∙ get_or-set_same marks place true false within),
  )
  | inr differ ↦ (
    (λ is. let old = (are at).0 (sym (get_or-set_other marks place at true false differ.1) ∙ is) in
        (old.0, Contains-append_left others (row ∷ []) old.0 old.1, old.2)),
    (λ found. get_or-set_other marks place at true false differ.1 ∙ elim (Contains-push_cases others row found.0 found.1) [
      | inl old ↦ (are at).1 (found.0, old, found.2)
      | inr same ↦ absurd (differ.1 (one_place rows row at place (subst (λ it. StandsLast rows it at) (sym same) found.2) stands))
    ]),
  )
]
  where
    within : place < length marks
    within = let inside = slice_get_within rows place row stands.at in omega (arith, inside, long)

-- a row that stands at a marked place is one of the others
pub marked_there : (rows others : List (List ℕ)) (marks : List Bool) (place : ℕ) (row : List ℕ) → AreMarked rows others marks
    → get_or marks place false ≡ true → slice_get rows place ≡ Some row → Contains others row
marked_there rows others marks place row are is at =
    let found = (are place).0 is in subst (Contains others) (same_Some found.0 row (sym found.2.at ∙ at)) found.1

-- and the mark at the last place where a row stands tells whether it is
pub last_told : (rows others : List (List ℕ)) (marks : List Bool) (place : ℕ) (row : List ℕ) (mark : Bool) → AreMarked rows others marks
    → StandsLast rows row place → get_or marks place false ≡ mark → IsTrue mark ↔ Contains others row
last_told rows others marks place row mark are stands is = (
  λ told. marked_there rows others marks place row are (is ∙ told) stands.at,
  λ inside. sym is ∙ (are place).1 (row, inside, stands),
)

-- ---- sets of rows

pub not_same : (rows others : List (List ℕ)) → (IsPart others rows → ⊥) → ((row : List ℕ) → Contains rows row ↔ Contains others row) → ⊥
not_same rows others apart same = apart (λ row inside. (same row).1 inside)

pub same_told : (rows others : List (List ℕ)) (answer : Bool) → IsPart others rows → IsTrue answer ↔ IsPart rows others
    → IsTrue answer ↔ ((row : List ℕ) → Contains rows row ↔ Contains others row)
same_told rows others answer back told = (
  λ there row. (told.0 there row, back row),
  λ same. told.1 (λ row inside. (same row).0 inside),
)
