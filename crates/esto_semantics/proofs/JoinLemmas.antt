-- Maps of several lists of terms, each spread by a map of its own, joined to one map of what the terms are spread to.
use Rattle.std.proofs.Common.{◌≡◌, ◌⊎◌, inl, inr, zero, suc, ℕ, ◌<◌, Bool, true, false, cond, List, [], ◌∷◌, Contains, refl, sym, ap, ◌∙◌, subst, arith}
use Rattle.esto_term.specs.declared.term.Term.{Term}
use Rattle.esto_term.specs.Order.{same_term}
use Rattle.esto_semantics.proofs.TermLemmas.{same_term-Decides}
use Rattle.esto_term.proofs.ListLemmas.{Contains-cases, Contains-head, Contains-nil, Contains-rest}

-- whether a list has a term
pub Contains-decided : (things : List Term) (term : Term) → Contains things term ⊎ (Contains things term → ⊥)
Contains-decided [] term = inr (Contains-nil term)
Contains-decided (first ∷ rest) term = by (Contains-decided rest term) (same_term first term) refl
  where
    by : Contains rest term ⊎ (Contains rest term → ⊥) → (answer : Bool) → same_term first term ≡ answer
        → Contains (first ∷ rest) term ⊎ (Contains (first ∷ rest) term → ⊥)
    by later true told = inl (subst (Contains (first ∷ rest)) ((same_term-Decides first term).0 told) (Contains-head first rest))
    by (inl inside) false told = inl (Contains-rest first rest term inside)
    by (inr outside) false told = inr (λ inside. elim (Contains-cases first rest term inside) [
      | inl is ↦ let wrong : true ≡ false = sym ((same_term-Decides first term).1 is) ∙ told in cc
      | inr later ↦ outside later
    ])

-- a number below the next one is below this one or is it
pub below_cases : (number count : ℕ) → number < suc count → (number ≡ count) ⊎ (number < count)
below_cases zero zero below = inl refl
below_cases zero (suc count) below = inr (omega arith)
below_cases (suc number) zero below = absurd (omega arith)
below_cases (suc number) (suc count) below = elim (below_cases number count (omega arith)) [
  | inl is ↦ inl (ap suc is)
  | inr less ↦ inr (omega arith)
]

module _ {V : Type 0} (spread : ℕ → Term → Term) (local : ℕ → Term → V) (terms : ℕ → List Term) (m : Term → V) where
  abbrev joined_over : List Term → ℕ → Term → V → V
  joined_over [] number term otherwise = otherwise
  joined_over (first ∷ rest) number term otherwise = cond (same_term (spread number first) term) (local number first) (joined_over rest number term otherwise)

  -- what is spread from one of the terms goes where that term goes by its own map; the rest goes by the given map
  abbrev pub joined : ℕ → Term → V
  joined zero term = m term
  joined (suc count) term = joined_over (terms count) count term (joined count term)

  joined_over-cases : (things : List Term) (number : ℕ) (term : Term) (otherwise : V)
      → ((inner : Term) × Contains things inner × (spread number inner ≡ term) × (joined_over things number term otherwise ≡ local number inner))
      ⊎ ((joined_over things number term otherwise ≡ otherwise) × ((inner : Term) → Contains things inner → spread number inner ≡ term → ⊥))
  joined_over-cases [] number term otherwise = inr (refl, λ inner inside is. Contains-nil inner inside)
  joined_over-cases (first ∷ rest) number term otherwise = by (joined_over-cases rest number term otherwise) (same_term (spread number first) term) refl
    where
      by : ((inner : Term) × Contains rest inner × (spread number inner ≡ term) × (joined_over rest number term otherwise ≡ local number inner))
          ⊎ ((joined_over rest number term otherwise ≡ otherwise) × ((inner : Term) → Contains rest inner → spread number inner ≡ term → ⊥))
          → (answer : Bool) → same_term (spread number first) term ≡ answer
          → ((inner : Term) × Contains (first ∷ rest) inner × (spread number inner ≡ term)
          × (cond answer (local number first) (joined_over rest number term otherwise) ≡ local number inner))
          ⊎ ((cond answer (local number first) (joined_over rest number term otherwise) ≡ otherwise)
          × ((inner : Term) → Contains (first ∷ rest) inner → spread number inner ≡ term → ⊥))
      by later true told = inl (first, Contains-head first rest, (same_term-Decides (spread number first) term).0 told, refl)
      by (inl (inner, inside, is, goes)) false told = inl (inner, Contains-rest first rest inner inside, is, goes)
      by (inr (goes, none)) false told = inr (
        goes,
        λ inner inside is. elim (Contains-cases first rest inner inside) [
          | inl here ↦ let wrong : true ≡ false = sym ((same_term-Decides (spread number first) term).1 (ap (spread number) here ∙ is)) ∙ told in cc
          | inr later ↦ none inner later is
        ],
      )

  joined-cases : (count : ℕ) (term : Term)
      → ((number : ℕ) × (inner : Term) × (number < count) × Contains (terms number) inner × (spread number inner ≡ term)
      × (joined count term ≡ local number inner))
      ⊎ ((joined count term ≡ m term) × ((number : ℕ) (inner : Term) → number < count → Contains (terms number) inner → spread number inner ≡ term → ⊥))
  joined-cases zero term = inr (refl, λ number inner below inside is. omega arith)
  joined-cases (suc count) term = elim (joined_over-cases (terms count) count term (joined count term)) [
    | inl (inner, inside, is, goes) ↦ inl (count, inner, omega arith, inside, is, goes)
    | inr (goes, none) ↦ elim (joined-cases count term) [
      | inl (number, inner, below, inside, is, earlier) ↦ inl (number, inner, omega arith, inside, is, goes ∙ earlier)
      | inr (given, none_earlier) ↦ inr (
        goes ∙ given,
        λ number inner below inside is. elim (below_cases number count below) [
          | inl last ↦ none inner (subst (λ it. Contains (terms it) inner) last inside) (ap (λ it. spread it inner) (sym last) ∙ is)
          | inr less ↦ none_earlier number inner less inside is
        ],
      )
    ]
  ]

  module _ (count : ℕ) where
    -- where two terms that are spread to one go to one
    pub joined-spread : ((number other : ℕ) (inner other_inner : Term) → number < count → other < count → Contains (terms number) inner
        → Contains (terms other) other_inner
        → spread number inner ≡ spread other other_inner → local number inner ≡ local other other_inner)
        → (number : ℕ) (inner : Term) → number < count → Contains (terms number) inner → joined count (spread number inner) ≡ local number inner
    joined-spread one number inner below inside = elim (joined-cases count (spread number inner)) [
      | inl (other, other_inner, other_below, other_inside, is, goes) ↦ goes ∙ one other number other_inner inner other_below below other_inside inside is
      | inr (given, none) ↦ absurd (none number inner below inside refl)
    ]

    -- and where what is spread to a term goes where the given map sends it
    pub joined-given : (term : Term)
        → ((number : ℕ) (inner : Term) → number < count → Contains (terms number) inner → spread number inner ≡ term → local number inner ≡ m term)
        → joined count term ≡ m term
    joined-given term one = elim (joined-cases count term) [
      | inl (number, inner, below, inside, is, goes) ↦ goes ∙ one number inner below inside is
      | inr (given, none) ↦ given
    ]
