-- Indexes of rows by some of their columns.
use Rattle.std.specs.Prelude.{◌≡◌, ◌<◌, ℕ, List, Some, map, slice_get, Contains}
use Rattle.esto_columns.specs.Indexed.{IsIndexOf, key_at}
use Rattle.esto_columns.specs.declared.index.RowIndex.{RowIndex}

-- Each is the index of the rows by its columns.
abbrev pub AreIndexes : List (List ℕ) → List RowIndex → Type 0
AreIndexes rows indexes = (own : RowIndex) → Contains indexes own → IsIndexOf own.index (map (key_at own.columns) rows)

-- The row stands at the place of the rows, and at none after it.
pub record StandsLast (rows : List (List ℕ)) (row : List ℕ) (place : ℕ) : Type 0 where
  pub at : slice_get rows place ≡ Some row
  pub last : (later : ℕ) → place < later → slice_get rows later ≡ Some row → ⊥
