-- The rows of fragments' files as rows of codes.
use Rattle.std.proofs.Common.{◌≡◌, ℕ, List, length, Option, None, Contains, sym, subst}
use Rattle.std.specs.Prelude.{Result, Ok, Err}
use Rattle.esto_docmodel.specs.Stores.{IsShapeFor}
use Rattle.esto_docmodel.specs.declared.file.Shape.{Shape}
use Rattle.esto_docmodel.specs.declared.file.Shape.TheVariants.{Table, Keys}
use Rattle.esto_columns.specs.CodedRows.{CodedRows}
use Rattle.esto_columns.specs.Interned.{AreCodedRows}
use Rattle.esto_ports.specs.declared.file_fault.FileError.{FileError}
use Rattle.esto_ports.specs.declared.file_fault.FileError.TheVariants.{Fault, OutOfMemory}
use Rattle.esto_ports.specs.declared.file_fault.FileFault.{FileFault}
use Rattle.esto_stores.specs.Coded.{CodesRows}
use Rattle.esto_stores.specs.Keys.{key_rows, key_fault}
use Rattle.esto_stores.specs.Rows.{Row}
use Rattle.esto_stores.specs.Table.{table_rows, table_fault}
use Rattle.esto_views.specs.declared.fragments.FragmentDef.{FragmentDef}
use Rattle.esto_docs.specs.Coded.{CodesFile}
use Rattle.esto_docs.specs.Stores.{HaveWidth, IsRowIn, first_fault_in, GivesRows}
use Rattle.esto_docs.proofs.StoreLemmas.{keys_wide, shape_wide, table_wide}

-- ---- rows of texts that get their codes

pub given_wide : (shape : Shape) (fragment : FragmentDef) (bytes : List ℕ) (rows : List Row) → IsShapeFor shape fragment.view
    → GivesRows (IsRowIn shape bytes) (first_fault_in shape (length fragment.view.head) bytes) (Ok rows) → HaveWidth (length fragment.view.head) rows
given_wide shape fragment bytes rows fits given row inside = shape_wide shape fragment bytes fits given.0 row ((given.1 row).0 inside)

pub given_codes : (Has : Row → Type 0) (fault : Option FileFault) (width : ℕ) (rows : List Row) (texts : List (List ℕ)) (coded : CodedRows)
    → GivesRows Has fault (Ok rows) → HaveWidth width rows → coded.arity ≡ width → AreCodedRows texts coded.rows rows
    → CodesFile Has fault width texts (Ok coded)
given_codes Has fault width rows texts coded given wide arity are =
    (given.0, record { rows = rows; arity = arity; are = are; wide = wide; exact = given.1 })

-- ---- cells that get their codes as they are read

codes_file : (rows : List Row) (fault : Option FileFault) (width : ℕ) (texts : List (List ℕ)) (result : Result CodedRows FileError)
    → (fault ≡ None → HaveWidth width rows) → CodesRows rows fault width texts result → CodesFile (Contains rows) fault width texts result
codes_file rows fault width texts (Ok coded) wide codes = (
  codes.0,
  record {
    rows = rows;
    arity = codes.1;
    are = codes.2;
    wide = wide codes.0;
    exact = λ row. ((λ inside. inside), (λ inside. inside));
  },
)
codes_file rows fault width texts (Err (Fault found)) wide codes = codes
codes_file rows fault width texts (Err OutOfMemory) wide codes = tt

module _ (shape : Shape) (fragment : FragmentDef) (bytes : List ℕ) (texts : List (List ℕ)) (result : Result CodedRows FileError) where
  abbrev CodesShape : Shape → Type 0
  CodesShape it = CodesFile (IsRowIn it bytes) (first_fault_in it (length fragment.view.head) bytes) (length fragment.view.head) texts result

  pub table_codes : (columns : Row) → shape ≡ Table columns → IsShapeFor shape fragment.view
      → CodesRows (table_rows columns bytes) (table_fault columns bytes) (length columns) texts result → CodesShape shape
  table_codes columns is fits codes =
      let fit = subst (λ (it : Shape). IsShapeFor it fragment.view) is fits in
      subst CodesShape (sym is) (subst (λ n. CodesFile (Contains (table_rows columns bytes)) (table_fault columns bytes) n texts result) fit.many
      (codes_file (table_rows columns bytes) (table_fault columns bytes) (length columns) texts result (λ none. table_wide columns bytes) codes))

  pub keys_codes : (width : ℕ) → shape ≡ Keys → width ≡ length fragment.view.head
      → CodesRows (key_rows bytes) (key_fault width bytes) width texts result → CodesShape shape
  keys_codes width is many codes = subst CodesShape (sym is)
      (subst (λ n. CodesFile (Contains (key_rows bytes)) (key_fault n bytes) n texts result) many
      (codes_file (key_rows bytes) (key_fault width bytes) width texts result (keys_wide width bytes) codes))
