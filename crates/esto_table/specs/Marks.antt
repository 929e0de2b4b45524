-- Marks on the columns of relations.
use Rattle.std.specs.Prelude.{ℕ, Bool, false, ◌||◌, List, [], slice_index_or}
use Rattle.esto_table.specs.declared.marks.Marks.{Marks}

-- Whether the column of the relation is marked.
abbrev pub is_marked : List (List Bool) → ℕ → ℕ → Bool
is_marked marked relation column = slice_index_or (slice_index_or marked relation []) column false

-- Whether the column of the relation is one of the columns.
abbrev pub is_among : Marks → ℕ → ℕ → Bool
is_among columns relation column = columns.every || is_marked columns.marked.items relation column
