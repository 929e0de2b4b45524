-- Places of a list: what a loop reads, the first few items, the items from a place on, and lists that have the same at each place.
use Rattle.std.proofs.Common.{◌≡◌, ◌≢◌, inl, inr, zero, suc, ℕ, ◌+◌, ◌<◌, List, [], ◌∷◌, ◌++◌, length, take, drop, get_or, slice_get, Contains, AllPairs, Some}
use Rattle.std.proofs.Common.{refl, sym, ap, ◌∙◌, subst, arith, ◌⊎◌, All}
use Rattle.std.proofs.lemmas.Bool.{cases_order}
use Rattle.std.proofs.lemmas.List.{drop_more, length-take, take_more}
use Rattle.std.proofs.lemmas.Option.{none-some, same_Some, slice_get_within, slice_get-get_or, get_or_from_slice_get}
use Rattle.esto_term.proofs.ListLemmas.{Contains-at, place-from_Contains}

-- ---- what a loop reads

-- a number before the next one is before this one, or this one
pub earlier_or_last : (number count : ℕ) → number < count + 1 → (number < count) ⊎ (number ≡ count)
earlier_or_last number count within = grind arith

-- what holds of all items holds of the one at a place
pub all_at : {X : Type 0} (P : X → Type 0) (items : List X) → All P items → (place : ℕ) (item : X) → slice_get items place ≡ Some item → P item
all_at P items all place item is =
    subst P (get_or_from_slice_get items place item item is) (all place item (slice_get_within items place item is))

-- what is read of a place stands there
pub item_at : {X : Type 0} (items : List X) (place : ℕ) (thing : X) → place < length items → thing ≡ get_or items place thing → slice_get items place
    ≡ Some thing
item_at items place thing within is = slice_get-get_or items place thing within ∙ ap Some (sym is)

-- the same, where a loop goes over a list that is this one
pub read_at : {X : Type 0} (xs ys : List X) → ys ≡ xs → (place : ℕ) (x : X) → place < length ys → x ≡ get_or ys place x → slice_get xs place ≡ Some x
read_at xs ys same place x within is = subst (λ zs. slice_get zs place ≡ Some x) same (item_at ys place x within is)

-- what is read of one place of two lists that are the same is the same
pub same_read : {X : Type 0} (xs ys : List X) (place : ℕ) (x y : X) → place < length xs → x ≡ get_or xs place x → y ≡ get_or ys place y → xs ≡ ys → x ≡ y
same_read xs ys place x y within here there same =
    same_Some x y (sym (item_at xs place x within here) ∙ read_at xs ys (sym same) place y (subst (λ zs. place < length zs) same within) there)

-- ---- one item more, and one item less

-- the items before a place, and the one that is read there
pub take-item : {X : Type 0} (items : List X) (place : ℕ) (thing : X) → place < length items → thing ≡ get_or items place thing → take (place + 1) items
    ≡ take place items ++ thing ∷ []
take-item items place thing within is = take_more items place thing within ∙ ap (λ it. take place items ++ it ∷ []) (sym is)

-- the same, of the one that stands there
pub take-there : {X : Type 0} (items : List X) (place : ℕ) (thing : X) → slice_get items place ≡ Some thing → take (place + 1) items
    ≡ take place items ++ thing ∷ []
take-there items place thing there =
    take-item items place thing (slice_get_within items place thing there) (sym (get_or_from_slice_get items place thing thing there))

-- the items from a place on are the one that is read there, and those after it
pub drop-item : {X : Type 0} (items : List X) (place : ℕ) (thing : X) → place < length items → thing ≡ get_or items place thing → drop place items
    ≡ thing ∷ drop (place + 1) items
drop-item items place thing within is = drop_more items place thing within ∙ ap (λ it. it ∷ drop (place + 1) items) (sym is)

-- the same, of the one that stands there
pub drop-there : {X : Type 0} (items : List X) (place : ℕ) (thing : X) → slice_get items place ≡ Some thing → drop place items
    ≡ thing ∷ drop (place + 1) items
drop-there items place thing there =
    drop-item items place thing (slice_get_within items place thing there) (sym (get_or_from_slice_get items place thing thing there))

-- ---- what the first few items are

-- what stands before a place is one of the items before it
pub at_before : {X : Type 0} (xs : List X) (place bound : ℕ) (x : X) → place < bound → slice_get xs place ≡ Some x → slice_get (take bound xs) place ≡ Some x
at_before [] place bound x before at = absurd (let wrong = at in cc)
at_before (first ∷ xs) place zero x before at = absurd (omega (arith, before))
at_before (first ∷ xs) zero (suc bound) x before at = at
at_before (first ∷ xs) (suc place) (suc bound) x before at = at_before xs place bound x (omega (arith, before)) at

-- what stands at a place of the first few stands there in all
pub taken_at : {X : Type 0} (xs : List X) (count place : ℕ) (x : X) → slice_get (take count xs) place ≡ Some x → slice_get xs place ≡ Some x
taken_at [] zero place x at = at
taken_at [] (suc count) place x at = at
taken_at (first ∷ rest) zero place x at = absurd (cc)
taken_at (first ∷ rest) (suc count) zero x at = at
taken_at (first ∷ rest) (suc count) (suc place) x at = taken_at rest count place x at

-- the first few contain what stands at a place before their end
pub Contains-take : {X : Type 0} (xs : List X) (count place : ℕ) (x : X) → place < count → slice_get xs place ≡ Some x → Contains (take count xs) x
Contains-take xs count place x before at = Contains-at (take count xs) place x (at_before xs place count x before at)

-- what the first few contain stands at a place before their end
pub Contains-take_from : {X : Type 0} (xs : List X) (count : ℕ) (x : X) → Contains (take count xs) x
    → (place : ℕ) × (place < count) × (slice_get xs place ≡ Some x)
Contains-take_from xs count x inside =
    let found = place-from_Contains (take count xs) x inside in (
      found.0,
      omega (arith, length-take count xs, slice_get_within (take count xs) found.0 x found.1),
      taken_at xs count found.0 x found.1,
    )

-- what the first few contain, the list contains
pub Contains-take_in : {X : Type 0} (xs : List X) (count : ℕ) (x : X) → Contains (take count xs) x → Contains xs x
Contains-take_in xs count x inside = let found = Contains-take_from xs count x inside in Contains-at xs found.0 x found.2

-- ---- what the places say of the list

-- where items are different, each stands at one place
pub one_place : {A : Type 0} (xs : List A) → AllPairs ◌≢◌ xs → (place other : ℕ) (x : A) → slice_get xs place ≡ Some x → slice_get xs other ≡ Some x
    → place ≡ other
one_place xs once place other x e d = elim (cases_order place other) [
  | inl same ↦ same
  | inr apart ↦ elim apart [
    | inl below ↦ absurd
        (once place other x below (slice_get_within xs other x d) (get_or_from_slice_get xs place x x e ∙ sym (get_or_from_slice_get xs other x x d)))
    | inr above ↦ absurd
        (once other place x above (slice_get_within xs place x e) (get_or_from_slice_get xs other x x d ∙ sym (get_or_from_slice_get xs place x x e)))
  ]
]

-- lists in which the same stands at each place are one
pub same_places : {A : Type 0} (xs ys : List A) → ((place : ℕ) → slice_get xs place ≡ slice_get ys place) → xs ≡ ys
same_places [] [] same = refl
same_places [] (y ∷ ys) same = absurd (none-some y (same 0))
same_places (x ∷ xs) [] same = absurd (none-some x (sym (same 0)))
same_places (x ∷ xs) (y ∷ ys) same = ap (λ z. z ∷ xs) (same_Some x y (same 0)) ∙ ap (λ zs. y ∷ zs) (same_places xs ys (λ place. same (suc place)))
