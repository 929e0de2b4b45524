-- The text of a fragment's file, made of its view's rows.
use Rattle.std.specs.Prelude.{◌≡◌, ◌↔◌, ℕ, ◌<◌, if◌then◌else◌, List, ◌++◌, All, map, nat_eq, slice_get, Contains, Some, None, Result, Ok, Err}
use Rattle.std.specs.List.{starts_with}
use Rattle.esto_docmodel.specs.declared.file.Shape.{Shape}
use Rattle.esto_docmodel.specs.declared.file.Shape.TheVariants.{Table, Documents, Keys}
use Rattle.esto_ports.specs.declared.mark.TheConstants.{MARK}
use Rattle.esto_docmodel.specs.Shapes.{entries_of}
use Rattle.esto_docs.specs.Documents.{document, documents_text}
use Rattle.esto_docs.specs.Stores.{IsRowIn, first_fault_in}
use Rattle.esto_semantics.specs.declared.fact.Value.{Value}
use Rattle.esto_semantics.specs.declared.fact.Value.TheVariants.{Text}
use Rattle.esto_stores.specs.KeyText.{row_fault, keys_text}
use Rattle.esto_stores.specs.Rows.{Row}
use Rattle.esto_stores.specs.TableText.{table_text}
use Rattle.esto_fill.specs.Texts.{AreTextsOf, IsFirstNodeColumn}
use Rattle.esto_fill.specs.declared.rows.AnswerError.{AnswerError}
use Rattle.esto_fill.specs.declared.rows.AnswerError.TheVariants as answer
use Rattle.esto_fill.specs.declared.filled.FillError.{FillError}
use Rattle.esto_fill.specs.declared.filled.FillError.TheVariants.{NodeInRow, KeyText, OutOfMemory}

-- The text of these rows in this shape.
abbrev pub text_in : Shape → List Row → List ℕ
text_in (Table columns) rows = table_text columns rows
text_in (Documents layout pattern) rows = documents_text layout (map (document (entries_of pattern.entries)) rows)
text_in Keys rows = keys_text rows

-- The text with a byte-order mark once more before it, where it begins with one: the mark that is dropped when a file is read is never its own.
abbrev pub with_mark : List ℕ → List ℕ
with_mark text = if starts_with nat_eq text MARK then MARK ++ text else text

-- A file in this shape can hold the rows: a key file holds no cell with a tab, a carriage return or a line feed.
abbrev pub CanHold : Shape → List Row → Type 0
CanHold (Table columns) rows = Unit {0}
CanHold (Documents layout pattern) rows = Unit {0}
CanHold Keys rows = All (λ row. row_fault row ≡ None) rows

-- The cell is the first one, by row and then by cell, that a key file can't hold.
pub record IsFirstUnfit (rows : List Row) (cell : List ℕ) : Type 0 where
  pub place : ℕ
  pub row : Row
  pub there : slice_get rows place ≡ Some row
  pub column : ℕ
  pub fault : row_fault row ≡ Some column
  pub is : slice_get row column ≡ Some cell
  pub before : (earlier : ℕ) (other : Row) → earlier < place → slice_get rows earlier ≡ Some other → row_fault other ≡ None

-- The same refusal of a query's answers as one of filling a file.
abbrev pub refusal_of : AnswerError → FillError
refusal_of (answer.NodeInRow column) = NodeInRow column
refusal_of answer.OutOfMemory = OutOfMemory

-- What comes of filling a file in this shape with the rows: their text, each row once, in rising order; or one of them holds an unnamed value, and this is the
-- least column that has one; or the file is one of keys, and this is the first cell that it can't hold; or memory is wanting.
abbrev pub Fills : Shape → (List Value → Type 0) → Result (List ℕ) FillError → Type 0
Fills shape Rows (Ok text) = (rows : List Row) × AreTextsOf Rows rows × CanHold shape rows × (text ≡ with_mark (text_in shape rows))
Fills shape Rows (Err (NodeInRow column)) = IsFirstNodeColumn Rows column
Fills shape Rows (Err (KeyText cell)) = (shape ≡ Keys) × ((rows : List Row) × AreTextsOf Rows rows × IsFirstUnfit rows cell)
Fills shape Rows (Err OutOfMemory) = Unit {0}

-- The bytes of a file in this shape, whose rows have that many cells, have no fault, and say exactly the rows.
pub record IsOpenedAs (shape : Shape) (width : ℕ) (Rows : List Value → Type 0) (bytes : List ℕ) : Type 0 where
  pub no_fault : first_fault_in shape width bytes ≡ None
  pub rows : (row : Row) → IsRowIn shape bytes row ↔ Rows (map Text row)

-- They have no fault, and say exactly these rows.
pub record SaysRows (shape : Shape) (width : ℕ) (rows : List Row) (bytes : List ℕ) : Type 0 where
  pub no_fault : first_fault_in shape width bytes ≡ None
  pub rows_are : (row : Row) → IsRowIn shape bytes row ↔ Contains rows row
