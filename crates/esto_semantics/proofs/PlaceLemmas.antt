-- The atoms that a set of numbers chooses, and their places.
use Rattle.std.proofs.Common.{◌≡◌, inl, inr, zero, suc, ℕ, Bool, true, false, List, [], ◌∷◌, slice_get, Contains, Some, refl, ap, subst}
use Rattle.esto_term.specs.declared.term.Term.{Term}
use Rattle.esto_semantics.specs.Listed.{chosen}
use Rattle.esto_term.specs.Sets.{Has}
use Rattle.esto_semantics.specs.declared.fact.Fact.{Fact}
use Rattle.esto_term.proofs.ListLemmas.{Contains-cases, Contains-head, Contains-nil, Contains-rest}

-- ---- what a set chooses

pub chosen-from_Has : (set : List Bool) (atoms : List (Fact Term)) (number : ℕ) (atom : Fact Term) → Has set number → slice_get atoms number ≡ Some atom
    → Contains (chosen set atoms) atom
chosen-from_Has [] atoms number atom has at = absurd (cc)
chosen-from_Has (is_in ∷ rest) [] number atom has at = absurd (cc)
chosen-from_Has (true ∷ rest) (first ∷ others) zero atom has at = let is : first ≡ atom = cc in
    subst (Contains (first ∷ chosen rest others)) is (Contains-head first (chosen rest others))
chosen-from_Has (false ∷ rest) (first ∷ others) zero atom has at = absurd (cc)
chosen-from_Has (true ∷ rest) (first ∷ others) (suc number) atom has at =
    Contains-rest first (chosen rest others) atom (chosen-from_Has rest others number atom has at)
chosen-from_Has (false ∷ rest) (first ∷ others) (suc number) atom has at = chosen-from_Has rest others number atom has at

pub Has-from_chosen : (set : List Bool) (atoms : List (Fact Term)) (atom : Fact Term) → Contains (chosen set atoms) atom
    → (number : ℕ) × Has set number × (slice_get atoms number ≡ Some atom)
Has-from_chosen [] atoms atom inside = absurd (Contains-nil atom inside)
Has-from_chosen (is_in ∷ rest) [] atom inside = absurd (Contains-nil atom inside)
Has-from_chosen (true ∷ rest) (first ∷ others) atom inside = elim (Contains-cases first (chosen rest others) atom inside) [
  | inl is ↦ (0, refl, ap Some is)
  | inr later ↦ let found = Has-from_chosen rest others atom later in (suc found.0, found.1, found.2)
]
Has-from_chosen (false ∷ rest) (first ∷ others) atom inside = let found = Has-from_chosen rest others atom inside in (suc found.0, found.1, found.2)

-- how many numbers of the set are less than the number: the place of its atom among the chosen ones
abbrev pub rank : List Bool → ℕ → ℕ
rank [] number = 0
rank (is_in ∷ rest) zero = 0
rank (true ∷ rest) (suc number) = suc (rank rest number)
rank (false ∷ rest) (suc number) = rank rest number

pub chosen_at-rank : (set : List Bool) (atoms : List (Fact Term)) (number : ℕ) (atom : Fact Term) → Has set number → slice_get atoms number ≡ Some atom
    → slice_get (chosen set atoms) (rank set number) ≡ Some atom
chosen_at-rank [] atoms number atom has at = absurd (cc)
chosen_at-rank (is_in ∷ rest) [] number atom has at = absurd (cc)
chosen_at-rank (true ∷ rest) (first ∷ others) zero atom has at = at
chosen_at-rank (false ∷ rest) (first ∷ others) zero atom has at = absurd (cc)
chosen_at-rank (true ∷ rest) (first ∷ others) (suc number) atom has at = chosen_at-rank rest others number atom has at
chosen_at-rank (false ∷ rest) (first ∷ others) (suc number) atom has at = chosen_at-rank rest others number atom has at

-- the number of the set at a place among its numbers
abbrev pub number_at : List Bool → ℕ → ℕ
number_at [] place = 0
number_at (true ∷ rest) zero = 0
number_at (true ∷ rest) (suc place) = suc (number_at rest place)
number_at (false ∷ rest) place = suc (number_at rest place)

pub number_at-rank : (set : List Bool) (number : ℕ) → Has set number → number_at set (rank set number) ≡ number
number_at-rank [] number has = absurd (cc)
number_at-rank (true ∷ rest) zero has = refl
number_at-rank (false ∷ rest) zero has = absurd (cc)
number_at-rank (true ∷ rest) (suc number) has = ap suc (number_at-rank rest number has)
number_at-rank (false ∷ rest) (suc number) has = ap suc (number_at-rank rest number has)

pub number_at-chosen : (set : List Bool) (atoms : List (Fact Term)) (place : ℕ) (atom : Fact Term) → slice_get (chosen set atoms) place ≡ Some atom
    → Has set (number_at set place) × (slice_get atoms (number_at set place) ≡ Some atom) × (rank set (number_at set place) ≡ place)
number_at-chosen [] atoms place atom at = absurd (cc)
number_at-chosen (is_in ∷ rest) [] place atom at = absurd (cc)
number_at-chosen (true ∷ rest) (first ∷ others) zero atom at = (refl, at, refl)
number_at-chosen (true ∷ rest) (first ∷ others) (suc place) atom at = let found = number_at-chosen rest others place atom at in
    (found.0, found.1, ap suc found.2)
number_at-chosen (false ∷ rest) (first ∷ others) place atom at = number_at-chosen rest others place atom at
