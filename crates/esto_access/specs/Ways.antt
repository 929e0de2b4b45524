-- The way in which an atom is read.
use Rattle.std.specs.Prelude.{◌≡◌, ℕ, ◌<◌, Bool, List, Option, Some, MatchOption, slice_get, Contains}
use Rattle.esto_term.specs.declared.term.Term.{Term}
use Rattle.esto_semantics.specs.Access.{MeetsPattern}
use Rattle.esto_semantics.specs.declared.fact.Fact.{Fact}

-- The atom meets none of the patterns after the chosen atoms.
abbrev pub MeetsNone : List (Fact Term) → (ℕ → Type 0) → Fact Term → List (List Bool) → Type 0
MeetsNone atoms Chosen atom patterns = (pattern : List Bool) → Contains patterns pattern → ¬ (MeetsPattern atoms Chosen atom pattern)

-- The pattern at the place is the first that the atom meets after the chosen atoms.
pub record IsFirstMet (atoms : List (Fact Term)) (Chosen : ℕ → Type 0) (atom : Fact Term) (patterns : List (List Bool)) (place : ℕ) : Type 0 where
  pub pattern : List Bool
  pub at : slice_get patterns place ≡ Some pattern
  pub meets : MeetsPattern atoms Chosen atom pattern
  pub first : (lesser : ℕ) (other : List Bool) → lesser < place → slice_get patterns lesser ≡ Some other → ¬ (MeetsPattern atoms Chosen atom other)

-- The way in which the atom is read is the first pattern that it meets; None comes where it meets none.
abbrev pub IsWay : List (Fact Term) → (ℕ → Type 0) → Fact Term → List (List Bool) → Option ℕ → Type 0
IsWay atoms Chosen atom patterns way = MatchOption way (MeetsNone atoms Chosen atom patterns) (IsFirstMet atoms Chosen atom patterns)
