-- Laws of files of lines.
use Rattle.std.specs.Prelude.{◌≡◌, ◌↔◌, ◌⊎◌, ◌++◌, ℕ, List}
use Rattle.esto_ports.specs.Lines.{with_feed}
use Rattle.esto_ports.specs.FileFaults.{FaultJoins}
use Rattle.esto_docmodel.specs.Patterns.{Entries}
use Rattle.esto_docs.specs.Files.{file_trees, trees_fault}
use Rattle.esto_docs.specs.Rows.{Row, IsRowOf}
use Rattle.esto_docmodel.specs.declared.file.Layout.TheVariants.{Lines}

-- Of a text that ends with a line feed and of another one after it, the documents are those of the one and then those of the other.
abbrev pub TreesJoin : Type 0
TreesJoin = (bytes after : List ℕ) → file_trees Lines (with_feed bytes ++ after) ≡ file_trees Lines (with_feed bytes) ++ file_trees Lines after

-- And so the rows are those of the one and those of the other.
abbrev pub RowsJoin : Type 0
RowsJoin = (columns : ℕ) (layout : Entries) (bytes after : List ℕ) (row : Row)
    → IsRowOf columns layout (file_trees Lines (with_feed bytes ++ after)) row
    ↔ (IsRowOf columns layout (file_trees Lines (with_feed bytes)) row ⊎ IsRowOf columns layout (file_trees Lines after) row)

-- And the first fault is that of the one, or else that of the other, moved on by the line feeds of the one.
abbrev pub TreesFaultsJoin : Type 0
TreesFaultsJoin = FaultJoins (trees_fault Lines)
