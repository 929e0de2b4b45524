-- Rows of cells as rows of codes.
use Rattle.std.specs.Prelude.{◌≡◌, ◌+◌, ℕ, true, false, List, [], ◌∷◌, ◌++◌, length, slice_get, Option, Some, None, Result, Ok, Err}
use Rattle.std.specs.Str.{is_utf8}
use Rattle.esto_term.specs.declared.text.TextError.{TextError}
use Rattle.esto_term.specs.declared.text.TextError.TheVariants as text
use Rattle.esto_columns.specs.CodedRows.{CodedRows}
use Rattle.esto_columns.specs.Interned.{AreCodesOf, AreCodedRows}
use Rattle.esto_ports.specs.declared.file_fault.FileFault.{FileFault}
use Rattle.esto_ports.specs.declared.file_fault.FileKind.{FileKind}
use Rattle.esto_ports.specs.declared.file_fault.FileKind.TheVariants.{NotUtf8}
use Rattle.esto_ports.specs.declared.file_fault.FileError.{FileError}
use Rattle.esto_ports.specs.declared.file_fault.FileError.TheVariants as content
use Rattle.esto_ports.specs.FileFaults.{fault_at}
use Rattle.esto_stores.specs.Rows.{Row, are_texts, first_fault}

-- There is no fault, and the rows of codes are those of the rows of texts, in order; or it is the fault; or memory is
-- wanting.
abbrev pub CodesRows : List Row → Option FileFault → ℕ → List (List ℕ) → Result CodedRows FileError → Type 0
CodesRows rows fault arity texts (Ok coded) = (fault ≡ None) × (coded.arity ≡ arity) × AreCodedRows texts coded.rows rows
CodesRows rows fault arity texts (Err (content.Fault found)) = fault ≡ Some found
CodesRows rows fault arity texts (Err content.OutOfMemory) = Unit {0}

-- The same of rows of codes that are filled, beginning with none.
abbrev pub FillsRows : List Row → Option FileFault → ℕ → List (List ℕ) → CodedRows → Result (Unit {0}) FileError → Type 0
FillsRows rows fault arity texts coded (Ok _) = CodesRows rows fault arity texts (Ok coded)
FillsRows rows fault arity texts coded (Err error) = CodesRows rows fault arity texts (Err error)

-- The cell is a text and its code is put at the end of the codes, or it is no text; or memory is wanting.
abbrev pub PutsCode : List ℕ → List ℕ → List (List ℕ) → List ℕ → Result (Unit {0}) TextError → Type 0
PutsCode cell old texts new (Ok _) =
    ((code : ℕ) × (new ≡ old ++ code ∷ []) × (slice_get texts code ≡ Some cell)) × (is_utf8 cell ≡ true)
PutsCode cell old texts new (Err text.NotUtf8) = is_utf8 cell ≡ false
PutsCode cell old texts new (Err text.OutOfMemory) = Unit {0}

-- The cells are texts and these are their codes, or one of them is no text; or memory is wanting.
abbrev pub CodesCells : Row → List (List ℕ) → List ℕ → Result (Unit {0}) TextError → Type 0
CodesCells cells texts codes (Ok _) = AreCodesOf texts codes cells × (are_texts cells ≡ true)
CodesCells cells texts codes (Err text.NotUtf8) = are_texts cells ≡ false
CodesCells cells texts codes (Err text.OutOfMemory) = Unit {0}

-- It is the fault of the kind at the row after these; or memory is wanting.
abbrev pub FaultsNext : FileKind → CodedRows → FileError → Type 0
FaultsNext kind before (content.Fault found) = found ≡ fault_at kind (length before.rows + 1)
FaultsNext kind before content.OutOfMemory = Unit {0}

-- Codes that were read of a row's cells are put after the rows of codes; or a cell was no text, and that is the fault of the
-- row; or memory is wanting.
abbrev pub PutsCodes : Result (Unit {0}) TextError → List ℕ → CodedRows → CodedRows → Result (Unit {0}) FileError → Type 0
PutsCodes read row before after (Ok _) =
    (read ≡ Ok tt) × (after ≡ record { arity = before.arity; rows = before.rows ++ row ∷ [] })
PutsCodes read row before after (Err (content.Fault found)) =
    (read ≡ Err text.NotUtf8) × FaultsNext NotUtf8 before (content.Fault found)
PutsCodes read row before after (Err content.OutOfMemory) = Unit {0}

-- The row has so many cells and no fault, and the codes of the cells that are taken of it stand after the rows of codes; or
-- this is the fault of the row; or memory is wanting.
abbrev pub AddsRow : FileKind → ℕ → (Row → Row) → Row → List (List ℕ) → CodedRows → List (List ℕ) → CodedRows
    → Result (Unit {0}) FileError → Type 0
AddsRow kind width taken cells old before new after (Ok _) =
    ((length cells ≡ width) × (are_texts (taken cells) ≡ true)) × ((after.arity ≡ before.arity)
    × ((rows : List Row) → AreCodedRows old before.rows rows → AreCodedRows new after.rows (rows ++ taken cells ∷ [])))
AddsRow kind width taken cells old before new after (Err (content.Fault found)) =
    (rest : List Row) → first_fault kind width taken (length before.rows + 1) (cells ∷ rest) ≡ Some found
AddsRow kind width taken cells old before new after (Err content.OutOfMemory) = Unit {0}
