-- Things that are decided: numbers, lists of numbers and truth values, and what is bounded by a number.
use Rattle.std.proofs.Common.{◌≡◌, ◌⊎◌, ℕ, zero, suc, ◌<◌, ◌≤◌, Bool, true, false, inl, inr, List, [], ◌∷◌, refl, subst, arith}
use Rattle.std.specs.Prelude.{Contains}
use Rattle.std.specs.List.{AllByRecursion}
use Rattle.std.proofs.lemmas.Bool.{cases_lt, cases_eq}
use Rattle.esto_term.proofs.ChoiceLemmas.{Decided, decided_as, decided_both, decided_not, decided_below, decided_in}

-- ---- both, all three, all four

pub decided_three : {P Q R : Type 0} → Decided P → Decided Q → Decided R → Decided (P × Q × R)
decided_three p q r = decided_as (λ (one, (two, three)). (one, two, three), λ (one, two, three). (one, (two, three))) (decided_both p (decided_both q r))

pub decided_four : {P Q R S : Type 0} → Decided P → Decided Q → Decided R → Decided S → Decided (P × Q × R × S)
decided_four p q r s = decided_as
    (λ (one, (two, (three, four))). (one, two, three, four), λ (one, two, three, four). (one, (two, (three, four))))
    (decided_both p (decided_both q (decided_both r s)))

-- ---- things

pub at_most : (m n : ℕ) → Decided (m ≤ n)
at_most m n = elim (cases_lt n m) [ inl less ↦ inr (λ le. omega (arith, less, le)) | inr le ↦ inl le ]

-- lists of things whose equality is decided
pub same_list : {A : Type 0} → ((thing other : A) → Decided (thing ≡ other)) → (xs ys : List A) → Decided (xs ≡ ys)
same_list same [] [] = inl refl
same_list same [] (y ∷ ys) = inr (λ e. cc)
same_list same (x ∷ xs) [] = inr (λ e. cc)
same_list same (x ∷ xs) (y ∷ ys) = by (same x y) (same_list same xs ys)
  where
    by : Decided (x ≡ y) → Decided (xs ≡ ys) → Decided (x ∷ xs ≡ y ∷ ys)
    by (inl p) (inl q) = inl (λ i. p i ∷ q i)
    by (inl p) (inr never) = inr (λ e. never cc)
    by (inr never) q = inr (λ e. never cc)

pub same_bytes : (xs ys : List ℕ) → Decided (xs ≡ ys)
same_bytes = same_list cases_eq

pub same_bool : (a b : Bool) → Decided (a ≡ b)
same_bool true true = inl refl
same_bool false false = inl refl
same_bool true false = inr (λ e. cc)
same_bool false true = inr (λ e. cc)

-- whether a list contains a thing, where equality is decided
pub contains : {A : Type 0} → ((thing other : A) → Decided (thing ≡ other)) → (things : List A) (thing : A) → Decided (Contains things thing)
contains same things thing = decided_as (λ (other, inside, is). subst (Contains things) is inside, λ inside. (thing, inside, refl))
    (decided_in (λ other. other ≡ thing) (λ other. same other thing) things)

pub all_of : (P : ℕ → Type 0) → ((b : ℕ) → Decided (P b)) → (bytes : List ℕ) → Decided (AllByRecursion P bytes)
all_of P decide [] = inl tt
all_of P decide (b ∷ bytes) = decided_both (decide b) (all_of P decide bytes)

-- ---- up to a bound

-- what is decided at each number below a bound is decided of all of them
pub each_below : (P : ℕ → Type 0) (bound : ℕ) → ((k : ℕ) → Decided (P k)) → Decided ((k : ℕ) → k < bound → P k)
each_below P bound decide = elim (decided_below (λ k. P k → ⊥) bound (λ k below. decided_not (decide k))) [
  | inl (k, below, fails) ↦ inr (λ each. fails (each k below))
  | inr none ↦ inl (λ k below. elim (decide k) [ inl is ↦ is | inr fails ↦ absurd (none (k, below, fails)) ])
]

-- of a property that is decided: the greatest number up to a bound that has it, or none has it
pub greatest : (P : ℕ → Type 0) → ((n : ℕ) → Decided (P n)) → (bound : ℕ)
    → ((n : ℕ) × (n ≤ bound) × P n × ((m : ℕ) → m ≤ bound → P m → m ≤ n)) ⊎ ((m : ℕ) → m ≤ bound → P m → ⊥)
greatest P decide zero = elim (decide 0) [
  | inl h ↦ inl (0, omega arith, h, λ m le g. le)
  | inr never ↦ inr (λ m le g. let e : m ≡ 0 = omega (arith, le) in never (subst P e g))
]
greatest P decide (suc bound) = elim (decide (suc bound)) [
  | inl h ↦ inl (suc bound, omega arith, h, λ m le g. le)
  | inr never ↦ elim (greatest P decide bound) [
    | inl found ↦ inl (
      found.0,
      omega (arith, found.1),
      found.2,
      λ m le g. elim (cases_lt bound m) [
        | inl more ↦ let e : m ≡ suc bound = omega (arith, le, more) in absurd (never (subst P e g))
        | inr less ↦ found.3 m less g
      ],
    )
    | inr none ↦ inr (λ m le g. elim (cases_lt bound m) [
      | inl more ↦ let e : m ≡ suc bound = omega (arith, le, more) in never (subst P e g)
      | inr less ↦ none m less g
    ])
  ]
]
