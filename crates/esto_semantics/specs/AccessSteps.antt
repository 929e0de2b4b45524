-- Steps to an order: the numbers of a set that can be taken next.
use Rattle.std.specs.Prelude.{◌≡◌, ℕ, ◌<◌, Bool, List, Some, length, slice_get}
use Rattle.esto_term.specs.declared.term.Term.{Term}
use Rattle.esto_term.specs.Sets.{Has}
use Rattle.esto_semantics.specs.Access.{Patterns, IsAccessible}
use Rattle.esto_semantics.specs.declared.fact.Fact.{Fact}

-- The atom of the number is accessible after the chosen atoms.
abbrev pub IsReady : Patterns → List (Fact Term) → (ℕ → Type 0) → ℕ → Type 0
IsReady patterns atoms Chosen number = (atom : Fact Term) → slice_get atoms number ≡ Some atom → IsAccessible patterns atoms Chosen atom

-- The number of the set is still to come, and its atom is accessible after the part.
pub record IsNext (patterns : Patterns) (atoms : List (Fact Term)) (set part : List Bool) (number : ℕ) : Type 0 where
  pub there : number < length atoms
  pub chosen : Has set number
  pub absent : Has part number → ⊥
  pub ready : IsReady patterns atoms (Has part) number

-- The part has each number of the set whose atom is accessible after it.
abbrev pub IsStuck : Patterns → List (Fact Term) → List Bool → List Bool → Type 0
IsStuck patterns atoms set part = (number : ℕ) → number < length atoms → Has set number → IsReady patterns atoms (Has part) number → Has part number
