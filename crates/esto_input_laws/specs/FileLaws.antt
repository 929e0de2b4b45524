-- That each file has rows or documents, or a first fault; and so has the file of each fragment.
use Rattle.std.specs.Prelude.{ℕ, length, Ok, Err}
use Rattle.esto_docmodel.specs.Stores.{IsShapeFor}
use Rattle.esto_docmodel.specs.declared.file.Shape.{Shape}
use Rattle.esto_docmodel.specs.Layouts.{IsLayout}
use Rattle.esto_docmodel.specs.Patterns.{Entries}
use Rattle.esto_docs.specs.Files.{file_trees, trees_fault}
use Rattle.esto_docs.specs.Rows.{IsRowOf, GivesRows}
use Rattle.esto_docmodel.specs.declared.file.Layout.{Layout}
use Rattle.esto_ports.specs.FileFaults.{Gives}
use Rattle.esto_ports.specs.declared.file_fault.FileError.TheVariants.{Fault}
use Rattle.esto_query.specs.declared.query.Query.{Query}
use Rattle.esto_docs.specs.Stores.{IsRowIn, first_fault_in}
use Rattle.esto_stores.specs.Keys.{key_rows, key_fault}
use Rattle.esto_stores.specs.Rows.{Row}
use Rattle.esto_stores.specs.Table.{table_rows, table_fault}
use Rattle.esto_input_laws.specs.Totality.{IsTotal}

-- Each CSV file has rows by whatever columns, or a first fault.
abbrev pub TablesAreTotal : Type 0
TablesAreTotal = (columns : Row) → IsTotal (λ bytes rows. Gives (table_rows columns bytes) (table_fault columns bytes) (Ok rows))
    (λ bytes fault. Gives (table_rows columns bytes) (table_fault columns bytes) (Err (Fault fault)))

-- Each key file has rows of whatever width, or a first fault.
abbrev pub KeysAreTotal : Type 0
KeysAreTotal = (width : ℕ) → IsTotal (λ bytes rows. Gives (key_rows bytes) (key_fault width bytes) (Ok rows))
    (λ bytes fault. Gives (key_rows bytes) (key_fault width bytes) (Err (Fault fault)))

-- Each JSON file has documents, or a first fault.
abbrev pub TreesAreTotal : Type 0
TreesAreTotal = (layout : Layout) → IsTotal (λ bytes trees. Gives (file_trees layout bytes) (trees_fault layout bytes) (Ok trees))
    (λ bytes fault. Gives (file_trees layout bytes) (trees_fault layout bytes) (Err (Fault fault)))

-- Each JSON file has, by whatever layout of so many columns, a list of exactly its rows, or a first fault.
abbrev pub DocumentRowsAreTotal : Type 0
DocumentRowsAreTotal =
    (columns : ℕ) (entries : Entries) (layout : Layout) → IsLayout columns entries
    → IsTotal (λ bytes rows. GivesRows (IsRowOf columns entries (file_trees layout bytes)) (trees_fault layout bytes) (Ok rows))
    (λ bytes fault. GivesRows (IsRowOf columns entries (file_trees layout bytes)) (trees_fault layout bytes) (Err (Fault fault)))

-- The file of each fragment, in a shape for its view, has a list of exactly its rows, or a first fault.
abbrev pub StoredRowsAreTotal : Type 0
StoredRowsAreTotal =
    (shape : Shape) (view : Query) → IsShapeFor shape view
    → IsTotal (λ bytes rows. GivesRows (IsRowIn shape bytes) (first_fault_in shape (length view.head) bytes) (Ok rows))
    (λ bytes fault. GivesRows (IsRowIn shape bytes) (first_fault_in shape (length view.head) bytes) (Err (Fault fault)))
