-- What a search among the sets of a plan's atoms looks for, and what it leaves.
use Rattle.std.specs.Prelude.{◌≡◌, ◌↔◌, ◌⊎◌, ℕ, ◌<◌, ◌≤◌, Bool, List, Option, None, Some, length, slice_get, Contains}
use Rattle.esto_term.specs.Sets.{Has, Covers, Within}

-- The other set has each number of the set, and none of those that are left out.
pub record IsBetween (set left_out other : List Bool) : Type 0 where
  pub same_length : length other ≡ length set
  pub has : Within set other
  pub lacks : (number : ℕ) → Has left_out number → ¬ (Has other number)

-- The other set has the set's numbers and those of the range, and no others.
pub record IsWithRange (set : List Bool) (from to : ℕ) (other : List Bool) : Type 0 where
  pub same_length : length other ≡ length set
  pub has : (number : ℕ) → Has other number ↔ (Has set number ⊎ ((from ≤ number) × (number < to)))

-- The other set has one of the numbers.
abbrev pub HasOneOf : List ℕ → List Bool → Type 0
HasOneOf numbers other = (number : ℕ) × Contains numbers number × Has other number

-- The kept sets after a visit: each is an earlier one or passes, all that was covered still is, and so is each set of a family that passes.
pub record Visited (Pass Family : List Bool → Type 0) (old new : List (List Bool)) : Type 0 where
  pub each : (set : List Bool) → Contains new set → Contains old set ⊎ Pass set
  pub still : (set : List Bool) → Covers old set → Covers new set
  pub covers : (set : List Bool) → Family set → Pass set → Covers new set

-- These are sets of the count that don't pass.
abbrev pub AreFailing : ℕ → (List Bool → Type 0) → List (List Bool) → Type 0
AreFailing count Pass sets = (set : List Bool) → Contains sets set → (length set ≡ count) × ¬ (Pass set)

-- At the place stands a set that has the set's numbers.
abbrev pub IsSupersetAt : List (List Bool) → List Bool → ℕ → Type 0
IsSupersetAt sets set place = (other : List Bool) × (slice_get sets place ≡ Some other) × Within set other

-- The place is the first at which stands a set that has the set's numbers; there is none where no such set stands at any.
abbrev pub IsFirstSuperset : List (List Bool) → List Bool → Option ℕ → Type 0
IsFirstSuperset sets set None = (place : ℕ) → ¬ (IsSupersetAt sets set place)
IsFirstSuperset sets set (Some place) = IsSupersetAt sets set place × ((earlier : ℕ) → earlier < place → ¬ (IsSupersetAt sets set earlier))

-- A set of the count that has the set's numbers and does not pass.
pub record FailsWith (count : ℕ) (Pass : List Bool → Type 0) (set failed : List Bool) : Type 0 where
  pub same_length : length failed ≡ count
  pub within : Within set failed
  pub fails : ¬ (Pass failed)

-- At the place stands a set of the count that has the set's numbers and does not pass.
abbrev pub FailsAt : ℕ → (List Bool → Type 0) → List (List Bool) → List Bool → ℕ → Type 0
FailsAt count Pass sets set place = (failed : List Bool) × (slice_get sets place ≡ Some failed) × FailsWith count Pass set failed
