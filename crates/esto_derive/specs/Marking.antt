-- The entries that are used, directly or through reasons.
use Rattle.std.specs.Prelude.{◌≡◌, ◌⊎◌, ◌↔◌, ℕ, Bool, List, [], Some, slice_get, Contains}
use Rattle.esto_term.specs.Sets.{Has, Within}
use Rattle.esto_chase_laws.specs.declared.entry.Entry.{Entry}
use Rattle.esto_chase_laws.specs.declared.entry.Reason.{Reason}
use Rattle.esto_chase_laws.specs.declared.entry.Reason.TheVariants.{Expanded, Step, Equal}

-- The places of the entries that the reason names.
abbrev pub named_by : Reason → List ℕ
named_by (Expanded atom place) = []
named_by (Step number places) = places
named_by (Equal places) = places

-- Where the entry's place is used, what it names is used too; else all stays.
abbrev pub AddsNamed : ℕ → Entry → List Bool → List Bool → Type 0
AddsNamed place entry old new =
    (number : ℕ) → Has new number ↔ (Has old number ⊎ (Has old place × Contains (named_by entry.reason) number))

-- The used entries name used entries alone.
abbrev pub AreClosed : List Entry → List Bool → Type 0
AreClosed entries used =
    (place : ℕ) (entry : Entry) → slice_get entries place ≡ Some entry → Has used place
    → (named : ℕ) → Contains (named_by entry.reason) named → Has used named

-- The products of the used entries are within the set.
abbrev pub AreUsedWithin : List Entry → List Bool → List Bool → Type 0
AreUsedWithin entries set used = (place : ℕ) (entry : Entry) → slice_get entries place ≡ Some entry → Has used place → Within entry.product set

-- A used entry names the entry at the place.
abbrev pub IsNamedByUsed : List Entry → List Bool → ℕ → Type 0
IsNamedByUsed entries used place =
    (by : ℕ) × (entry : Entry) × (slice_get entries by ≡ Some entry) × Has used by × Contains (named_by entry.reason) place

-- All that was used still is, and what else is used is named by a used entry. What is used names used entries alone,
-- and it stays within each set that it was within.
pub record Closes (entries : List Entry) (old new : List Bool) : Type 0 where
  pub keeps : (place : ℕ) → Has old place → Has new place
  pub only : (place : ℕ) → Has new place → Has old place ⊎ IsNamedByUsed entries new place
  pub closed : AreClosed entries new
  pub within : (set : List Bool) → AreUsedWithin entries set old → AreUsedWithin entries set new

-- The entries at the places, and all that they name directly or through others, are used, and no others are. These stay
-- within each set that the entries at the places are within.
pub record AreUsed (entries : List Entry) (facts links : List ℕ) (used : List Bool) : Type 0 where
  pub has_facts : (place : ℕ) → Contains facts place → Has used place
  pub has_links : (place : ℕ) → Contains links place → Has used place
  pub only : (place : ℕ) → Has used place → (Contains facts place ⊎ Contains links place) ⊎ IsNamedByUsed entries used place
  pub closed : AreClosed entries used
  pub within : (set : List Bool)
      → ((place : ℕ) (entry : Entry) → Contains facts place ⊎ Contains links place → slice_get entries place ≡ Some entry → Within entry.product set)
      → AreUsedWithin entries set used
