-- Rows of cells, and the first fault of rows.
use Rattle.std.specs.Prelude.{◌≡◌, ◌==◌, ◌+◌, ℕ, Bool, true, false, if◌then◌else◌, List, [], ◌∷◌, ◌++◌, length, Option, Some, None, Result, Ok, Err}
use Rattle.std.specs.List.{list_all}
use Rattle.std.specs.Str.{is_utf8}
use Rattle.esto_term.specs.declared.text.TextError.{TextError}
use Rattle.esto_term.specs.declared.text.TextError.TheVariants as text
use Rattle.esto_ports.specs.declared.file_fault.FileFault.{FileFault}
use Rattle.esto_ports.specs.declared.file_fault.FileError.{FileError}
use Rattle.esto_ports.specs.declared.file_fault.FileError.TheVariants as content
use Rattle.esto_ports.specs.declared.file_fault.FileKind.{FileKind}
use Rattle.esto_ports.specs.declared.file_fault.FileKind.TheVariants.{NotUtf8}
use Rattle.esto_ports.specs.FileFaults.{fault_at}

-- A row is a list of cells, each a list of bytes.
abbrev pub Row : Type 0
Row = List (List ℕ)

-- Each cell is UTF-8.
abbrev pub are_texts : Row → Bool
are_texts cells = list_all is_utf8 cells

-- The first fault of rows that are counted from the number: one of another length, which is a fault of this kind, or one in
-- which a cell that is taken is not UTF-8.
unfoldable pub first_fault : FileKind → ℕ → (Row → Row) → ℕ → List Row → Option FileFault
first_fault kind width taken number [] = None
first_fault kind width taken number (cells ∷ rest) =
    if length cells == width then
    (if are_texts (taken cells) then first_fault kind width taken (number + 1) rest
    else Some (fault_at NotUtf8 number))
    else Some (fault_at kind number)

-- The cell is a text and is put at the end of the row, or it is no text; or memory is wanting.
abbrev pub PutsCell : Row → List ℕ → Row → Result (Unit {0}) TextError → Type 0
PutsCell old cell new (Ok _) = (new ≡ old ++ cell ∷ []) × (is_utf8 cell ≡ true)
PutsCell old cell new (Err text.NotUtf8) = is_utf8 cell ≡ false
PutsCell old cell new (Err text.OutOfMemory) = Unit {0}

-- The cells are texts and give this row, or one of them is no text; or memory is wanting.
abbrev pub ReadsRow : Row → Result Row TextError → Type 0
ReadsRow cells (Ok row) = (row ≡ cells) × (are_texts cells ≡ true)
ReadsRow cells (Err text.NotUtf8) = are_texts cells ≡ false
ReadsRow cells (Err text.OutOfMemory) = Unit {0}

-- The row has so many cells and no fault, and the cells that are taken of it are put as a row after these; or this is the fault of the row; or memory is
-- wanting.
abbrev pub AddsTexts : FileKind → ℕ → (Row → Row) → Row → List Row → List Row → Result (Unit {0}) FileError → Type 0
AddsTexts kind width taken cells before after (Ok _) =
    (length cells ≡ width) × (are_texts (taken cells) ≡ true) × (after ≡ before ++ taken cells ∷ [])
AddsTexts kind width taken cells before after (Err (content.Fault found)) =
    (rest : List Row) → first_fault kind width taken (length before + 1) (cells ∷ rest) ≡ Some found
AddsTexts kind width taken cells before after (Err content.OutOfMemory) = Unit {0}
