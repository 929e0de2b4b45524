-- Lists of places.
use Rattle.std.specs.Prelude.{ℕ, ◌≤◌, List, Contains}
use Rattle.std.specs.List.Sorted.{IsNonDecreasingBy}

-- The places rise.
abbrev pub IsRising : List ℕ → Type 0
IsRising places = IsNonDecreasingBy (λ (place : ℕ). place) places

-- Each place at or after the given one is left; what is left are such places, and they rise.
pub record AreFrom (least : ℕ) (places left : List ℕ) : Type 0 where
  pub complete : (place : ℕ) → Contains places place → least ≤ place → Contains left place
  pub within : (place : ℕ) → Contains left place → least ≤ place
  pub rising : IsRising left
