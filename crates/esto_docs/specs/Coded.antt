-- Rows of a file as rows of codes.
use Rattle.std.specs.Prelude.{◌≡◌, ◌↔◌, ℕ, List, Contains, Option, Some, None, Result, Ok, Err}
use Rattle.esto_columns.specs.CodedRows.{CodedRows}
use Rattle.esto_columns.specs.Interned.{AreCodedRows}
use Rattle.esto_ports.specs.declared.file_fault.FileFault.{FileFault}
use Rattle.esto_ports.specs.declared.file_fault.FileError.{FileError}
use Rattle.esto_ports.specs.declared.file_fault.FileError.TheVariants.{Fault, OutOfMemory}
use Rattle.esto_stores.specs.Rows.{Row}
use Rattle.esto_docs.specs.Stores.{HaveWidth}

-- The rows of codes are those of rows of texts, each with so many cells, that are exactly the rows that are so.
pub record AreCodesOfFile (Has : Row → Type 0) (width : ℕ) (texts : List (List ℕ)) (coded : CodedRows) : Type 0 where
  pub rows : List Row
  pub arity : coded.arity ≡ width
  pub are : AreCodedRows texts coded.rows rows
  pub wide : HaveWidth width rows
  pub exact : (row : Row) → Contains rows row ↔ Has row

-- There is no fault, and the rows of codes are exactly the rows that are so; or it is the first fault; or memory is wanting.
abbrev pub CodesFile : (Row → Type 0) → Option FileFault → ℕ → List (List ℕ) → Result CodedRows FileError → Type 0
CodesFile Has fault width texts (Ok coded) = (fault ≡ None) × AreCodesOfFile Has width texts coded
CodesFile Has fault width texts (Err (Fault found)) = fault ≡ Some found
CodesFile Has fault width texts (Err OutOfMemory) = Unit {0}
