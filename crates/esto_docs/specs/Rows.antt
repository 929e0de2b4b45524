-- The rows that documents have by a layout.
use Rattle.std.specs.Prelude.{◌≡◌, ◌↔◌, ◌⊎◌, ℕ, true, false, List, [], length, slice_index_or, Contains, Option, Some, None, Result, Ok, Err}
use Rattle.esto_term.specs.declared.term.Term.{Term, out-Term}
use Rattle.esto_term.specs.declared.term.Term.TheOpen.{Term-F}
use Rattle.esto_term.specs.declared.term.Term.TheVariants.{Const}
use Rattle.esto_docmodel.specs.Patterns.{Entries, Matches}
use Rattle.esto_docmodel.specs.Shapes.{shape}
use Rattle.esto_docmodel.specs.declared.tree.Tree.{Tree}
use Rattle.esto_ports.specs.declared.file_fault.FileFault.{FileFault}
use Rattle.esto_ports.specs.declared.file_fault.FileError.{FileError}
use Rattle.esto_ports.specs.declared.file_fault.FileError.TheVariants.{Fault, OutOfMemory}
use Rattle.esto_docs.specs.Files.{is_bad, trees_of_line}
use Rattle.esto_docs.specs.declared.parse.ParseError.{ParseError}
use Rattle.esto_docs.specs.declared.parse.ParseError.TheVariants as parse

-- A row is a list of cells, each a list of bytes.
abbrev pub Row : Type 0
Row = List (List ℕ)

-- The text of a term in a row, by the term's kind: a constant's own, and a column's cell.
abbrev pub text_by_kind : Row → Term-F Term → List ℕ
text_by_kind row (Term-F.Const text) = text
text_by_kind row (Term-F.Plain column) = slice_index_or row column []
text_by_kind row (Term-F.Made _ _ _) = []

-- The text of a term in a row.
abbrev pub text_in : Row → Term → List ℕ
text_in row term = text_by_kind row (out-Term term)

-- The map of a row sends each column to its cell, and keeps constants.
abbrev pub row_map : Row → Term → Term
row_map row term = Const (text_in row term)

-- The row is one of these documents' by the layout of so many columns: it has a cell for each column, and the layout is matched in one of the documents under
-- the row's map.
abbrev pub IsRowOf : ℕ → Entries → List Tree → Row → Type 0
IsRowOf columns layout trees row = (length row ≡ columns) × ((tree : Tree) × Contains trees tree × Matches (row_map row) layout (shape tree))

-- The answer has exactly the rows that are so, and there is no fault; or it is the first fault, and there is one; or memory is wanting.
abbrev pub GivesRows : (Row → Type 0) → Option FileFault → Result (List Row) FileError → Type 0
GivesRows IsRow fault (Ok rows) = (fault ≡ None) × ((row : Row) → Contains rows row ↔ IsRow row)
GivesRows IsRow fault (Err (Fault found)) = fault ≡ Some found
GivesRows IsRow fault (Err OutOfMemory) = Unit {0}

-- ---- for private clauses

-- The rows that are so are put to those that were there.
abbrev pub Gains : (Row → Type 0) → List Row → List Row → Type 0
Gains IsRow old new = (row : Row) → Contains new row ↔ (Contains old row ⊎ IsRow row)

-- The rows of the line's documents are put to those that were there, or the line is bad; or memory is wanting.
abbrev pub OpensLine : (List Tree → Row → Type 0) → List ℕ → List Row → List Row → Result (Unit {0}) ParseError → Type 0
OpensLine IsRow line old new (Ok _) = (is_bad line ≡ false) × Gains (IsRow (trees_of_line line)) old new
OpensLine IsRow line old new (Err parse.BadJson) = is_bad line ≡ true
OpensLine IsRow line old new (Err parse.OutOfMemory) = Unit {0}
