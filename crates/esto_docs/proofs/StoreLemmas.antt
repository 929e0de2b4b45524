-- The rows of fragments' files.
use Rattle.std.proofs.Common.{◌≡◌, ◌==◌, ◌+◌, inl, inr, ℕ, Bool, true, false, if◌then◌else◌, List, [], ◌∷◌, map, length, Option, None, Some, Contains, refl}
use Rattle.std.proofs.Common.{sym, ap, ◌∙◌, subst, arith}
use Rattle.std.specs.Prelude.{Result, Ok, Err, IfOk}
use Rattle.std.proofs.lemmas.Bool.{cases_order, eqb-true}
use Rattle.std.proofs.lemmas.List.{length-map}
use Rattle.std.proofs.lemmas.Option.{none-some}
use Rattle.esto_term.specs.declared.term.Term.TheVariants.{Plain}
use Rattle.esto_docmodel.specs.Stores.{IsShapeFor}
use Rattle.esto_docmodel.specs.declared.file.Shape.{Shape}
use Rattle.esto_docmodel.specs.declared.file.Shape.TheVariants.{Table, Documents, Keys}
use Rattle.esto_docmodel.specs.Layouts.{IsLayout, AreLaidOut, StandsOnce}
use Rattle.esto_docmodel.specs.Patterns.{Entries, done, holds, group}
use Rattle.esto_docmodel.specs.Shapes.{entries_of}
use Rattle.esto_docmodel.specs.declared.pattern.Pattern.{Pattern}
use Rattle.esto_docs.specs.Files.{file_trees, trees_fault}
use Rattle.esto_docs.specs.Rows.{IsRowOf, GivesRows}
use Rattle.esto_docmodel.specs.declared.file.Layout.{Layout}
use Rattle.esto_ports.specs.FileFaults.{Gives, fault_at}
use Rattle.esto_ports.specs.declared.file_fault.FileError.{FileError}
use Rattle.esto_ports.specs.declared.file_fault.FileError.TheVariants.{Fault, OutOfMemory}
use Rattle.esto_ports.specs.declared.file_fault.FileFault.{FileFault}
use Rattle.esto_ports.specs.declared.file_fault.FileKind.{FileKind}
use Rattle.esto_ports.specs.declared.file_fault.FileKind.TheVariants.{Cells, NotUtf8}
use Rattle.esto_stores.specs.Keys.{key_rows, key_fault}
use Rattle.esto_stores.specs.Rows.{Row, are_texts, first_fault}
use Rattle.esto_stores.specs.Table.{records_of, place_in, declared, rows_of_records, table_rows}
use Rattle.esto_term.proofs.ListLemmas.{Contains-nil, Contains-cases, Contains-map_from}
use Rattle.esto_views.specs.declared.fragments.FragmentDef.{FragmentDef}
use Rattle.esto_docs.specs.Stores.{HaveWidth, IsRowIn, IsDocumentRow, first_fault_in, GivesRows}

pub gives_wide : (Has : Row → Type 0) (width : ℕ) (fault : Option FileFault) (result : Result (List Row) FileError) → GivesRows Has fault result
    → (fault ≡ None → (row : Row) → Has row → length row ≡ width) → IfOk result (HaveWidth width)
gives_wide Has width fault (Ok found) given wide = λ row inside. wide given.0 row ((given.1 row).0 inside)
gives_wide Has width fault (Err error) given wide = tt

records_wide : (columns : Row) (records : List Row) → HaveWidth (length columns) (rows_of_records columns records)
records_wide columns [] row inside = absurd (Contains-nil row inside)
records_wide columns (header ∷ records) row inside =
    let found = Contains-map_from (declared header columns) records row inside in
    ap length (sym found.2) ∙ length-map (map (place_in header) columns) _ ∙ length-map columns (place_in header)

pub table_wide : (columns : Row) (bytes : List ℕ) → HaveWidth (length columns) (table_rows columns bytes)
unfolding table_rows
table_wide columns bytes = records_wide columns (records_of bytes)

-- rows without a fault have the width
pub rows_wide : (kind : FileKind) (width : ℕ) (taken : Row → Row) (number : ℕ) (rows : List Row) → first_fault kind width taken number rows ≡ None
    → HaveWidth width rows
unfolding first_fault
rows_wide kind width taken number [] none row inside = absurd (Contains-nil row inside)
rows_wide kind width taken number (cells ∷ rest) none row inside =
    by (length cells == width) refl none (λ passed there. rows_wide kind width taken (number + 1) rest passed row there)
  where
    later : (good : Bool) → (if good then first_fault kind width taken (number + 1) rest else Some (fault_at NotUtf8 number)) ≡ None
        → length cells ≡ width → (first_fault kind width taken (number + 1) rest ≡ None → Contains rest row → length row ≡ width) → length row ≡ width
    later true passed long again = elim (Contains-cases cells rest row inside) [
      | inl is ↦ ap length (sym is) ∙ long
      | inr there ↦ again passed there
    ]
    later false passed long again = absurd (none-some _ (sym passed))

    by : (same : Bool) → (length cells == width) ≡ same
        → (if same then (if are_texts (taken cells) then first_fault kind width taken (number + 1) rest else Some (fault_at NotUtf8 number))
        else Some (fault_at kind number)) ≡ None → (first_fault kind width taken (number + 1) rest ≡ None → Contains rest row → length row ≡ width) → length
        row ≡ width
    by true is passed again = later (are_texts (taken cells)) passed (eqb-true (length cells) width is) again
    by false is passed again = absurd (none-some _ (sym passed))

pub keys_wide : (width : ℕ) (bytes : List ℕ) → key_fault width bytes ≡ None → HaveWidth width (key_rows bytes)
unfolding key_fault
keys_wide width bytes none = rows_wide Cells width (λ cells. cells) 1 (key_rows bytes) none

-- ---- a pattern is a layout for one number of columns

past_columns : (columns : ℕ) (entries : Entries) → AreLaidOut columns entries → StandsOnce (Plain columns) entries → ⊥
past_columns columns done laid once = once
past_columns columns (holds path term rest) (plain, (column, is, below), laid) (inl (same, absent)) =
    let one : column ≡ columns = cc in omega (arith, one, below)
past_columns columns (holds path term rest) (plain, its, laid) (inr (apart, later)) = past_columns columns rest laid later
past_columns columns (group path inner rest) (plain, together, laid, after) (inl (here, absent)) = past_columns columns inner laid here
past_columns columns (group path inner rest) (plain, together, laid, after) (inr (absent, later)) = past_columns columns rest after later

one_width : (columns other : ℕ) (entries : Entries) → IsLayout columns entries → IsLayout other entries → columns ≡ other
one_width columns other entries is too = elim (cases_order columns other) [
  | inl same ↦ same
  | inr apart ↦ elim apart [
    | inl less ↦ absurd (past_columns columns entries is.laid_out (too.once columns less))
    | inr more ↦ absurd (past_columns other entries too.laid_out (is.once other more))
  ]
]

pub documents_give : (columns : ℕ) (layout : Layout) (pattern : Pattern) (bytes : List ℕ) (result : Result (List Row) FileError)
    → IsLayout columns (entries_of pattern.entries)
    → GivesRows (IsRowOf columns (entries_of pattern.entries) (file_trees layout bytes)) (trees_fault layout bytes) result
    → GivesRows (IsDocumentRow layout pattern bytes) (trees_fault layout bytes) result
documents_give columns layout pattern bytes (Ok rows) is opens = (
  opens.0,
  λ row. (
    (λ inside. let found = (opens.1 row).0 inside in (
      subst (λ n. IsLayout n (entries_of pattern.entries)) (sym found.0) is,
      subst (λ n. IsRowOf n (entries_of pattern.entries) (file_trees layout bytes) row) (sym found.0) found,
    )),
    (λ (own, has). (opens.1 row).1 (subst (λ n. IsRowOf n (entries_of pattern.entries) (file_trees layout bytes) row)
        (one_width (length row) columns (entries_of pattern.entries) own is) has)),
  ),
)
documents_give columns layout pattern bytes (Err (Fault found)) is opens = opens
documents_give columns layout pattern bytes (Err OutOfMemory) is opens = tt

-- ---- all shapes

pub shape_wide : (shape : Shape) (fragment : FragmentDef) (bytes : List ℕ) → IsShapeFor shape fragment.view
    → first_fault_in shape (length fragment.view.head) bytes ≡ None → (row : Row) → IsRowIn shape bytes row → length row ≡ length fragment.view.head
shape_wide (Table columns) fragment bytes fits none row is_row = table_wide columns bytes row is_row ∙ fits.many
shape_wide (Documents layout pattern) fragment bytes fits none row is_row =
    one_width (length row) (length fragment.view.head) (entries_of pattern.entries) is_row.0 fits
shape_wide Keys fragment bytes fits none row is_row = keys_wide (length fragment.view.head) bytes none row is_row

pub gives_rows : (rows : List Row) (fault : Option FileFault) (result : Result (List Row) FileError) → Gives rows fault result
    → GivesRows (Contains rows) fault result
gives_rows rows fault (Ok found) given =
    (given.0, λ row. ((λ inside. subst (λ them. Contains them row) given.1 inside), (λ inside. subst (λ them. Contains them row) (sym given.1) inside)))
gives_rows rows fault (Err (Fault found)) given = given
gives_rows rows fault (Err OutOfMemory) given = tt
