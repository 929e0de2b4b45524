-- Two lists item by item: what is said of the items that stand at the same places.
use Rattle.std.proofs.Common.{◌≡◌, ◌<◌, inl, inr, zero, suc, ℕ, List, [], ◌∷◌, ◌++◌, length, get_or, Contains, slice_get, Some, refl, sym, ◌∙◌, subst, arith}
use Rattle.std.specs.List.{AllZip}
use Rattle.std.proofs.lemmas.Option.{none-some, same_Some, slice_get-get_or, get_or_from_slice_get}
use Rattle.std.proofs.lemmas.Slice.Zip.{AllZip-long}
use Rattle.esto_term.proofs.ListLemmas.{Contains-nil, Contains-head, Contains-rest, Contains-cases}

-- ---- the lists as a whole

-- the two are as long as each other
pub zip_length : {X Y : Type 0} (R : X → Y → Type 0) (xs : List X) (ys : List Y) → AllZip R xs ys → length xs ≡ length ys
zip_length R xs ys all = sym (AllZip-long R xs ys all)

-- what follows of each two, the first of which is in the first list
pub zip_weaker : {X Y : Type 0} (R S : X → Y → Type 0) (xs : List X) (ys : List Y) → ((x : X) (y : Y) → Contains xs x → R x y → S x y) → AllZip R xs ys
    → AllZip S xs ys
zip_weaker R S [] [] f z = z
zip_weaker R S [] (y ∷ ys) f z = absurd z
zip_weaker R S (x ∷ xs) [] f z = absurd z
zip_weaker R S (x ∷ xs) (y ∷ ys) f z = (f x y (Contains-head x xs) z.0, zip_weaker R S xs ys (λ a b c r. f a b (Contains-rest x xs a c) r) z.1)

pub zip_append : {X Y : Type 0} (R : X → Y → Type 0) (xs more : List X) (ys others : List Y) → AllZip R xs ys → AllZip R more others
    → AllZip R (xs ++ more) (ys ++ others)
zip_append R [] more [] others a b = b
zip_append R [] more (y ∷ ys) others a b = absurd a
zip_append R (x ∷ xs) more [] others a b = absurd a
zip_append R (x ∷ xs) more (y ∷ ys) others a b = (a.0, zip_append R xs more ys others a.1 b)

pub zip_split : {X Y : Type 0} (R : X → Y → Type 0) (xs more : List X) (ys others : List Y) → length xs ≡ length ys → AllZip R (xs ++ more) (ys ++ others)
    → AllZip R xs ys × AllZip R more others
zip_split R [] more [] others l a = (tt, a)
zip_split R [] more (y ∷ ys) others l a = absurd (omega (arith, l))
zip_split R (x ∷ xs) more [] others l a = absurd (omega (arith, l))
zip_split R (x ∷ xs) more (y ∷ ys) others l a = let rest = zip_split R xs more ys others (omega (arith, l)) a.1 in ((a.0, rest.0), rest.1)

-- ---- what they contain

-- what is in the first list has one of the second
pub zip_left : {X Y : Type 0} (R : X → Y → Type 0) (xs : List X) (ys : List Y) → AllZip R xs ys → (x : X) → Contains xs x → (y : Y) × Contains ys y × R x y
zip_left R [] ys z x c = absurd (Contains-nil x c)
zip_left R (x' ∷ xs) [] z x c = absurd z
zip_left {X} {Y} R (x' ∷ xs) (y ∷ ys) z x c = elim (Contains-cases x' xs x c) [
  | inl e ↦ (y, Contains-head y ys, subst (λ (w : X). R w y) e z.0)
  | inr t ↦ let r = zip_left R xs ys z.1 x t in (r.0, Contains-rest y ys r.0 r.1, r.2)
]

-- and what is in the second list one of the first
pub zip_right : {X Y : Type 0} (R : X → Y → Type 0) (xs : List X) (ys : List Y) → AllZip R xs ys → (y : Y) → Contains ys y → (x : X) × Contains xs x × R x y
zip_right R [] [] z y c = absurd (Contains-nil y c)
zip_right R [] (y' ∷ ys) z y c = absurd z
zip_right R (x ∷ xs) [] z y c = absurd z
zip_right {X} {Y} R (x ∷ xs) (y' ∷ ys) z y c = elim (Contains-cases y' ys y c) [
  | inl e ↦ (x, Contains-head x xs, subst (λ (w : Y). R x w) e z.0)
  | inr t ↦ let r = zip_right R xs ys z.1 y t in (r.0, Contains-rest x xs r.0 r.1, r.2)
]

-- ---- what stands at a place

-- what stands at a place of the first list has its own at that place of the second
pub zip_at : {X Y : Type 0} (R : X → Y → Type 0) (xs : List X) (ys : List Y) → AllZip R xs ys → (place : ℕ) (x : X) → slice_get xs place ≡ Some x
    → (y : Y) × (slice_get ys place ≡ Some y) × R x y
zip_at R [] ys all place x at = absurd (none-some x at)
zip_at R (first ∷ xs) [] all place x at = absurd all
zip_at R (first ∷ xs) (other ∷ ys) all zero x at = (other, refl, subst (λ it. R it other) (same_Some first x at) all.0)
zip_at R (first ∷ xs) (other ∷ ys) all (suc place) x at = zip_at R xs ys all.1 place x at

-- so two items at one place are related
pub zip_both : {X Y : Type 0} (R : X → Y → Type 0) (xs : List X) (ys : List Y) → AllZip R xs ys → (place : ℕ) (x : X) (y : Y) → slice_get xs place ≡ Some x
    → slice_get ys place ≡ Some y → R x y
zip_both R xs ys all place x y at at_y =
    let found = zip_at R xs ys all place x at in subst (R x) (same_Some found.0 y (sym found.1 ∙ at_y)) found.2

-- lists of one length that are related at each place are so as a whole
pub zip_by_places : {X Y : Type 0} (R : X → Y → Type 0) (xs : List X) (ys : List Y) → length xs ≡ length ys
    → ((place : ℕ) (x : X) (y : Y) → slice_get xs place ≡ Some x → slice_get ys place ≡ Some y → R x y) → AllZip R xs ys
zip_by_places R [] [] lengths each = tt
zip_by_places R [] (own ∷ ys) lengths each = absurd (omega (arith, lengths))
zip_by_places R (first ∷ xs) [] lengths each = absurd (omega (arith, lengths))
zip_by_places R (first ∷ xs) (own ∷ ys) lengths each = (
  each 0 first own refl refl,
  zip_by_places R xs ys (omega (arith, lengths)) (λ place x y at at_y. each (suc place) x y at at_y),
)

-- the items that are read at one place are related
pub zip_read : {X Y : Type 0} (R : X → Y → Type 0) (xs : List X) (ys : List Y) (place : ℕ) (d : X) (e : Y) → AllZip R xs ys → place < length ys
    → R (get_or xs place d) (get_or ys place e)
zip_read R xs ys place d e all within =
    let inside : place < length xs = omega (arith, within, AllZip-long R xs ys all) in
    let found = zip_at R xs ys all place (get_or xs place d) (slice_get-get_or xs place d inside) in
    subst (R (get_or xs place d)) (sym (get_or_from_slice_get ys place found.0 e found.1)) found.2
