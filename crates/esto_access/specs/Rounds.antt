-- Rounds: which atoms of a set are reached in so many steps.
use Rattle.std.specs.Prelude.{◌≡◌, ◌↔◌, ℕ, zero, suc, Bool, List, Some, length, slice_get, Contains}
use Rattle.esto_term.specs.declared.term.Term.{Term}
use Rattle.esto_semantics.specs.Access.{Patterns, IsAccessible, MeetsPattern}
use Rattle.esto_term.specs.Sets.{Has}
use Rattle.esto_semantics.specs.declared.fact.Fact.{Fact}
use Rattle.esto_bits.specs.Kept.{Kept, AreOver, IsAntichain}
use Rattle.esto_access.specs.Supplies.{EachIs, IsReachedIn, IsSupplied}

-- The term occurs in one of the chosen atoms.
abbrev pub OccursIn : List (Fact Term) → (ℕ → Type 0) → Term → Type 0
OccursIn atoms Chosen term = (number : ℕ) × Chosen number × ((atom : Fact Term) × (slice_get atoms number ≡ Some atom) × Contains atom.terms term)

-- The atom meets one of the patterns after the chosen atoms.
abbrev pub MeetsOneOf : List (Fact Term) → (ℕ → Type 0) → Fact Term → List (List Bool) → Type 0
MeetsOneOf atoms Chosen atom patterns = (pattern : List Bool) × Contains patterns pattern × MeetsPattern atoms Chosen atom pattern

-- The number is one of the set's, and its atom is accessible after the chosen ones.
abbrev pub IsNextIn : Patterns → List (Fact Term) → List Bool → (ℕ → Type 0) → ℕ → Type 0
IsNextIn patterns atoms set Chosen number = Has set number
    × ((atom : Fact Term) × (slice_get atoms number ≡ Some atom) × IsAccessible patterns atoms Chosen atom)

-- The atom of the number is reached in so many rounds, of which each takes the atoms of the set that are accessible after those of one round less.
abbrev pub InRounds : Patterns → List (Fact Term) → List Bool → ℕ → ℕ → Type 0
InRounds patterns atoms set zero number = ⊥
InRounds patterns atoms set (suc rounds) number = IsNextIn patterns atoms set (InRounds patterns atoms set rounds) number

-- There are sets for each atom, of the atoms' count, of which none is a subset of another.
pub record AreSupplies (atoms : List (Fact Term)) (supplies : List Kept) : Type 0 where
  pub each : length supplies ≡ length atoms
  pub counts : EachIs (λ _ products. products.count ≡ length atoms) supplies
  pub kept : EachIs (λ _ products. AreOver products.count products.sets × IsAntichain products.sets) supplies

-- One round more: a number is supplied in a set exactly where it is next after those that were.
abbrev pub AreOneRound : Patterns → List (Fact Term) → List Kept → List Kept → Type 0
AreOneRound patterns atoms before after = (set : List Bool) (number : ℕ)
    → IsSupplied after set number ↔ IsNextIn patterns atoms set (IsSupplied before set) number

-- So many rounds: a number is supplied in a set exactly where it is reached in so many.
abbrev pub AreRounds : Patterns → List (Fact Term) → ℕ → List Kept → Type 0
AreRounds patterns atoms rounds supplies = (set : List Bool) (number : ℕ) → IsSupplied supplies set number ↔ InRounds patterns atoms set rounds number

-- The supplies tell what is reached: a number is supplied in a set of the atoms exactly where it is reached in it.
abbrev pub TellAllReached : Patterns → List (Fact Term) → List Kept → Type 0
TellAllReached patterns atoms supplies =
    (set : List Bool) → length set ≡ length atoms → (number : ℕ) → IsSupplied supplies set number ↔ IsReachedIn patterns atoms number set

-- Nothing is supplied after that was not before.
abbrev pub AddNothing : List Kept → List Kept → Type 0
AddNothing before after = (set : List Bool) (number : ℕ) → IsSupplied after set number → IsSupplied before set number

-- Where one round more reaches nothing more, whatever is reached has been reached.
abbrev pub LastRoundIsEnough : Type 0
LastRoundIsEnough =
    (patterns : Patterns) (atoms : List (Fact Term)) (set : List Bool) → length set ≡ length atoms → (rounds : ℕ)
    → ((number : ℕ) → InRounds patterns atoms set (suc rounds) number → InRounds patterns atoms set rounds number)
    → (number : ℕ) → InRounds patterns atoms set (suc rounds) number ↔ IsReachedIn patterns atoms number set

-- As many rounds as there are atoms reach whatever is reached, and nothing else.
abbrev pub RoundsAreEnough : Type 0
RoundsAreEnough =
    (patterns : Patterns) (atoms : List (Fact Term)) (set : List Bool) → length set ≡ length atoms
    → (number : ℕ) → InRounds patterns atoms set (length atoms) number ↔ IsReachedIn patterns atoms number set
