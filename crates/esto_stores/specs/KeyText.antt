-- The text of a key file.
use Rattle.std.specs.Prelude.{◌==◌, ◌||◌, ℕ, Bool, List, [], ◌∷◌, ◌++◌, flat_map, position, Option}
use Rattle.std.specs.List.{list_any, join_with_byte}
use Rattle.esto_ports.specs.Lines.{line_feed}
use Rattle.esto_stores.specs.Rows.{Row}
use Rattle.esto_stores.specs.Keys.{tab, carriage_return}

-- A byte that no cell of a key file may have.
abbrev pub is_part : ℕ → Bool
is_part b = (b == tab) || (b == line_feed) || (b == carriage_return)

-- The first cell that a key file can't hold.
abbrev pub row_fault : Row → Option ℕ
row_fault row = position (λ cell. list_any is_part cell) row

-- The line of a row: its cells, joined by tabs.
abbrev pub line_text : Row → List ℕ
line_text row = join_with_byte tab row ++ line_feed ∷ []

-- The text of rows: their lines, one after the other.
abbrev pub keys_text : List Row → List ℕ
keys_text rows = flat_map line_text rows
