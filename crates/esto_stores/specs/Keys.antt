-- The rows of a key file, or its first fault.
use Rattle.std.specs.Prelude.{◌==◌, ℕ, if◌then◌else◌, List, [], ◌∷◌, map, Option}
use Rattle.std.specs.List.{slice_split}
use Rattle.esto_ports.specs.declared.file_fault.FileFault.{FileFault}
use Rattle.esto_ports.specs.declared.file_fault.FileKind.TheVariants.{Cells}
use Rattle.esto_ports.specs.Lines.{lines_of}
use Rattle.esto_stores.specs.Rows.{Row, first_fault}

-- The byte that parts the cells of a line.
abbrev pub tab : ℕ
tab = 9

-- The byte that may stand at a line's end, before its line feed.
abbrev pub carriage_return : ℕ
carriage_return = 13

-- A line without one carriage return at its end.
unfoldable pub without_return : List ℕ → List ℕ
without_return [] = []
without_return (b ∷ []) = if b == carriage_return then [] else b ∷ []
without_return (b ∷ next ∷ rest) = b ∷ without_return (next ∷ rest)

-- The cells of a line, which tabs part.
abbrev pub cells_of_line : List ℕ → Row
cells_of_line line = slice_split (λ b. b == tab) (without_return line)

-- The rows of a key file.
unfoldable pub key_rows : List ℕ → List Row
key_rows bytes = map cells_of_line (lines_of bytes)

-- The first fault of a key file whose rows have this many cells.
unfoldable pub key_fault : ℕ → List ℕ → Option FileFault
key_fault width bytes = first_fault Cells width (λ cells. cells) 1 (key_rows bytes)
