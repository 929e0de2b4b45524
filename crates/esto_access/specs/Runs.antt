-- The run that takes the accessible atom of least number each time.
use Rattle.std.specs.Prelude.{◌≡◌, ℕ, ◌<◌, Bool, List, Some, length, slice_get, Contains}
use Rattle.esto_term.specs.declared.term.Term.{Term}
use Rattle.esto_term.specs.Sets.{Has, Within}
use Rattle.esto_semantics.specs.Access.{Patterns, IsAccessible, IsEarlier, IsOrder}
use Rattle.esto_semantics.specs.AccessSteps.{IsReady}
use Rattle.esto_semantics.specs.declared.fact.Fact.{Fact}

-- The number can follow the earlier ones: it is in the set, it is none of them, and its atom is accessible after them.
pub record CanFollow (patterns : Patterns) (atoms : List (Fact Term)) (set : List Bool) (earlier : List ℕ) (number : ℕ) : Type 0 where
  pub there : number < length atoms
  pub chosen : Has set number
  pub absent : ¬ (Contains earlier number)
  pub ready : IsReady patterns atoms (Contains earlier) number

-- No number can follow the earlier ones.
abbrev pub NoneFollows : Patterns → List (Fact Term) → List Bool → List ℕ → Type 0
NoneFollows patterns atoms set earlier = (number : ℕ) → ¬ (CanFollow patterns atoms set earlier number)

-- The number is the least that can follow the earlier ones.
pub record IsFirstFollower (patterns : Patterns) (atoms : List (Fact Term)) (set : List Bool) (earlier : List ℕ) (number : ℕ) : Type 0 where
  pub follows : CanFollow patterns atoms set earlier number
  pub least : (lesser : ℕ) → lesser < number → ¬ (CanFollow patterns atoms set earlier lesser)

-- The list is an order of a part of the set, and took the accessible atom of least number of the set each time.
pub record IsRun (patterns : Patterns) (atoms : List (Fact Term)) (set part : List Bool) (order : List ℕ) : Type 0 where
  pub within : Within part set
  pub is_order : IsOrder patterns atoms part order
  pub least : (place number : ℕ) → slice_get order place ≡ Some number
      → (lesser : ℕ) (atom : Fact Term) → lesser < number → Has set lesser → slice_get atoms lesser ≡ Some atom
      → IsAccessible patterns atoms (IsEarlier order place) atom → IsEarlier order place lesser
