-- Codes of nodes in rows.
use Rattle.std.specs.Prelude.{◌≡◌, ◌≤◌, ℕ, List, Some, None, Option, slice_get, Contains}
use Rattle.esto_coded.specs.declared.coded.TheConstants.{FIRST_NODE}

-- The row has the code of a node in that column, counted from 0.
abbrev pub HasNodeAt : ℕ → List ℕ → Type 0
HasNodeAt column row = (code : ℕ) × (slice_get row column ≡ Some code) × (FIRST_NODE ≤ code)

-- No row has the code of a node; or one of them has one in this column, and none has one in a lesser.
abbrev pub LeastNode : List (List ℕ) → Option ℕ → Type 0
LeastNode rows None = (row : List ℕ) (column : ℕ) → Contains rows row → ¬ (HasNodeAt column row)
LeastNode rows (Some column) =
    ((row : List ℕ) × Contains rows row × HasNodeAt column row)
    × ((row : List ℕ) (lesser : ℕ) → Contains rows row → HasNodeAt lesser row → column ≤ lesser)
