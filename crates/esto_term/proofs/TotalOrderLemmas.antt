-- Orders in general: comparisons in turn, what comes no later, lists in order, and lists told apart where their items are.
use Rattle.std.proofs.Common.{◌≡◌, ◌≢◌, ℕ, ◌<◌, ◌≤◌, Bool, true, false, List, [], ◌∷◌, length, get_or, refl, sym, ap, ◌∙◌, Bor}
use Rattle.std.specs.Cmp.{IsTotalOrder, IsStrictWeakOrder}
use Rattle.std.specs.Cmp.Lexicographic.{slice_cmp}
use Rattle.std.specs.Fn.{Mut, Called, ComparesAs}
use Rattle.std.specs.List.Sorted.{IsSortedBy}
use Rattle.std.specs.Ordering.{ordering_then, ordering_reverse, is_lt}
use Rattle.std.specs.declared.cmp.Ordering.{Ordering}
use Rattle.std.specs.declared.cmp.Ordering.TheVariants.{Less, Equal, Greater}
use Rattle.std.proofs.lemmas.Bool.{false≢true}
use Rattle.std.proofs.lemmas.Fn.{always_returns_same}
use Rattle.std.proofs.lemmas.List.Sorted.{ranks_by, sorted_far}

-- ---- comparisons

pub not_less : (order : Ordering) → is_lt order ≡ false → order ≢ Less
not_less order told less = false≢true (sym told ∙ ap is_lt less)

pub is_less : (order : Ordering) → is_lt order ≡ true → order ≡ Less
is_less Less told = refl
is_less Equal told = absurd (false≢true told)
is_less Greater told = absurd (false≢true told)

-- where a comparison and the next one together answer `Equal`, so does the first
pub first_equal : (first next : Ordering) → ordering_then first next ≡ Equal → first ≡ Equal
first_equal Less next tied = tied
first_equal Equal next tied = refl
first_equal Greater next tied = tied

-- and so does the next one
pub next_equal : (first next : Ordering) → ordering_then first next ≡ Equal → next ≡ Equal
next_equal Less next tied = cc
next_equal Equal next tied = tied
next_equal Greater next tied = cc

pub both_equal : (first next : Ordering) → ordering_then first next ≡ Equal → (first ≡ Equal) × (next ≡ Equal)
both_equal first next tied = (first_equal first next tied, next_equal first next tied)

-- ---- a total order

-- what comes no later than something less is less
pub below : {A : Type 0} (cmp : A → A → Ordering) → IsTotalOrder cmp → (one two three : A) → cmp two one ≢ Less → cmp two three ≡ Less → cmp one three ≡ Less
below {A} cmp total one two three no_later less = by (cmp two one) refl
  where
    by : (order : Ordering) → cmp two one ≡ order → cmp one three ≡ Less
    by Less told = absurd (no_later told)
    by Equal told = sym (total.congr two one three told) ∙ less
    by Greater told = total.trans one two three (total.antisymm one two ∙ ap ordering_reverse told) less

-- two things of which neither comes after the other are one
pub at_most_both : {A : Type 0} (cmp : A → A → Ordering) (total : IsTotalOrder cmp) → ((x y : A) → cmp x y ≡ Equal → x ≡ y) → (x y : A) → cmp x y ≢ Greater
    → cmp y x ≢ Greater → x ≡ y
at_most_both cmp total exact x y up down = by (cmp x y) refl
  where
    by : (order : Ordering) → cmp x y ≡ order → x ≡ y
    by Less less = absurd (down (total.antisymm y x ∙ ap ordering_reverse less))
    by Equal same = exact x y same
    by Greater more = absurd (up more)

-- what is sorted by a total order stands in order: no item comes after a greater one
pub in_order-sorted : {A : Type 0} {F : Type 0} {g : Mut F (Bor A × (Bor A × Unit {0})) Ordering} {f : F} (cmp : A → A → Ordering) → IsTotalOrder cmp
    → (items : List A)
    → ((lt : A → A → Bool) → IsStrictWeakOrder lt → ComparesAs g lt f → IsSortedBy lt items)
    → ((a : Bor A × (Bor A × Unit {0})) (r : Ordering) (f' : F) → Called g f a r f' → (r ≡ cmp a.0.now a.1.0.now) × (f' ≡ f))
    → (i j : ℕ) (d : A) → i ≤ j → j < length items → cmp (get_or items j d) (get_or items i d) ≢ Less
in_order-sorted {A} {F} {g} {f} cmp total items sorted calls i j d le within =
    let lesser : A → A → Bool = λ one other. is_lt (cmp one other) in
    let weak : IsStrictWeakOrder lesser = ranks_by total (λ (item : A). item) in
    let up : IsSortedBy lesser items =
    sorted lesser weak (always_returns_same g (λ a r. is_lt r ≡ is_lt (cmp a.0.now a.1.0.now)) f
    (λ a r f' k. (ap is_lt (calls a r f' k).0, (calls a r f' k).1))) in
    not_less (cmp (get_or items j d) (get_or items i d)) (sorted_far lesser weak items up i j d le within)

-- ---- lists told apart where their items are

pub lists_exact : {A : Type 0} (cmp : A → A → Ordering) → ((x y : A) → cmp x y ≡ Equal → x ≡ y) → (xs ys : List A) → slice_cmp cmp xs ys ≡ Equal → xs ≡ ys
lists_exact cmp exact [] [] told = refl
lists_exact cmp exact [] (y ∷ ys) told = absurd (cc)
lists_exact cmp exact (x ∷ xs) [] told = absurd (cc)
lists_exact cmp exact (x ∷ xs) (y ∷ ys) told =
    let parts = both_equal (cmp x y) (slice_cmp cmp xs ys) told in
    let first = exact x y parts.0 in
    let rest = lists_exact cmp exact xs ys parts.1 in
    λ i. first i ∷ rest i
