-- The rows of fragments' files, or the first fault of one.
use Rattle.std.specs.Prelude.{◌≡◌, ℕ, List, Option, Some, length, slice_get, Contains}
use Rattle.esto_docmodel.specs.declared.file.Shape.{Shape}
use Rattle.esto_docmodel.specs.declared.file.Shape.TheVariants.{Table, Documents, Keys}
use Rattle.esto_docmodel.specs.declared.file.Store.{Store}
use Rattle.esto_docmodel.specs.Layouts.{IsLayout}
use Rattle.esto_docmodel.specs.Shapes.{entries_of}
use Rattle.esto_docmodel.specs.declared.pattern.Pattern.{Pattern}
use Rattle.esto_docs.specs.Files.{file_trees, trees_fault}
use Rattle.esto_docs.specs.Rows.{IsRowOf}
pub use Rattle.esto_docs.specs.Rows.{GivesRows}
use Rattle.esto_docmodel.specs.declared.file.Layout.{Layout}
use Rattle.esto_ports.specs.declared.file_fault.FileFault.{FileFault}
use Rattle.esto_semantics.specs.declared.fact.Fact.{Fact}
use Rattle.esto_stores.specs.Keys.{key_rows, key_fault}
use Rattle.esto_stores.specs.Rows.{Row}
use Rattle.esto_stores.specs.Table.{table_rows, table_fault}

-- Each row has so many cells.
abbrev pub HaveWidth : ℕ → List Row → Type 0
HaveWidth width rows = (row : Row) → Contains rows row → length row ≡ width

-- The row is one of the documents' by the pattern, which is a layout for as many columns as the row has cells.
abbrev pub IsDocumentRow : Layout → Pattern → List ℕ → Row → Type 0
IsDocumentRow layout pattern bytes row =
    IsLayout (length row) (entries_of pattern.entries) × IsRowOf (length row) (entries_of pattern.entries) (file_trees layout bytes) row

-- The row is one of those that the bytes of a file in this shape say.
abbrev pub IsRowIn : Shape → List ℕ → Row → Type 0
IsRowIn (Table columns) bytes row = Contains (table_rows columns bytes) row
IsRowIn (Documents layout pattern) bytes row = IsDocumentRow layout pattern bytes row
IsRowIn Keys bytes row = Contains (key_rows bytes) row

-- The first fault of the bytes of a file in this shape, whose rows have this many cells.
abbrev pub first_fault_in : Shape → ℕ → List ℕ → Option FileFault
first_fault_in (Table columns) width bytes = table_fault columns bytes
first_fault_in (Documents layout pattern) width bytes = trees_fault layout bytes
first_fault_in Keys width bytes = key_fault width bytes

-- The fact is a row of the file of the fragment that its relation numbers, in the shape of the fragment's store.
abbrev pub IsFileRow : List Store → (ℕ → List ℕ) → Fact (List ℕ) → Type 0
IsFileRow stores files fact =
    (store : Store) × (slice_get stores fact.relation ≡ Some store) × IsRowIn store.shape (files fact.relation) fact.terms
