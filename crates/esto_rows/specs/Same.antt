-- Rows that are rows of others, and marks at the places where they stand.
use Rattle.std.specs.Prelude.{◌≡◌, ◌↔◌, ℕ, Bool, true, false, List, slice_index_or, Contains}
use Rattle.esto_columns.specs.RowIndexes.{StandsLast}

-- Each of the rows is one of the others.
abbrev pub IsPart : List (List ℕ) → List (List ℕ) → Type 0
IsPart rows others = (row : List ℕ) → Contains rows row → Contains others row

-- The marked places are those at which one of the others stands last among the rows.
abbrev pub AreMarked : List (List ℕ) → List (List ℕ) → List Bool → Type 0
AreMarked rows others marks =
    (place : ℕ) → (slice_index_or marks place false ≡ true) ↔ ((row : List ℕ) × Contains others row × StandsLast rows row place)
