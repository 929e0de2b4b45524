-- The rows of fragments, as far as their files are opened.
use Rattle.std.specs.Prelude.{◌≡◌, ◌<◌, ◌↔◌, ℕ, List, [], Some, length, map, slice_get, slice_set, slice_index_or, Contains}
use Rattle.esto_docmodel.specs.declared.file.Store.{Store}
use Rattle.esto_columns.specs.Asked.{Shape}
use Rattle.esto_columns.specs.declared.stored.StoredRows.{StoredRows}
use Rattle.esto_steps.specs.Planned.{inputs_of}
use Rattle.esto_steps.specs.Rows.{IsRowOf, held_by}
use Rattle.esto_semantics.specs.declared.fact.Fact.{Fact}
use Rattle.esto_stores.specs.Rows.{Row}
use Rattle.esto_views.specs.declared.fragments.FragmentDef.{FragmentDef}
use Rattle.esto_docs.specs.Stores.{HaveWidth, IsFileRow}

-- What is held of a fragment: how it is asked, and its rows.
pub record Held : Type 0 where
  pub shape : Shape
  pub rows : List Row

-- The texts of a row of codes; a code that is not there has the empty text.
abbrev pub texts_of : List (List ℕ) → List ℕ → Row
texts_of texts codes = map (λ code. slice_index_or texts code []) codes

-- What rows of codes hold, where these are the texts of the codes.
abbrev pub held_of : List (List ℕ) → StoredRows → Held
held_of texts stored = record {
  shape = record { arity = stored.rows.arity; ways = stored.ways };
  rows = map (texts_of texts) stored.rows.rows;
}

-- Each code of the rows is that of a text.
abbrev pub HaveTexts : List (List ℕ) → List StoredRows → Type 0
HaveTexts texts stored =
    (own : StoredRows) (codes : List ℕ) (code : ℕ) → Contains stored own → Contains own.rows.rows codes → Contains codes code → code < length texts

-- The rows that are held, a list for each fragment.
abbrev pub rows_held : List Held → List (List Row)
rows_held opened = map (λ held. held.rows) opened

-- How the fragment is asked: it has the columns of its view, and a way for each of its patterns.
abbrev pub shape_of : FragmentDef → Shape
shape_of fragment = record { arity = length fragment.view.head; ways = map inputs_of fragment.access }

-- What is held of a fragment whose file is not opened.
abbrev pub unopened : FragmentDef → Held
unopened fragment = record { shape = shape_of fragment; rows = [] }

-- The rows are those of the fragments, each asked in its ways, with as many cells as the fragment's view has columns.
pub record AreRowsFor (fragments : List FragmentDef) (opened : List Held) : Type 0 where
  pub shapes : map (λ held. held.shape) opened ≡ map shape_of fragments
  pub wide : (number : ℕ) (fragment : FragmentDef) → slice_get fragments number ≡ Some fragment
      → HaveWidth (length fragment.view.head) (held_by (rows_held opened) number)

-- Rows of the fragment stand at the number in place of what stood there, each with as many cells as the fragment's view has columns, and they are exactly those
-- that are so.
pub record ArePut (Has : Row → Type 0) (fragment : FragmentDef) (number : ℕ) (old new : List Held) : Type 0 where
  pub rows : List Row
  pub wide : HaveWidth (length fragment.view.head) rows
  pub exact : (row : Row) → Contains rows row ↔ Has row
  pub put : new ≡ slice_set old number (record { shape = shape_of fragment; rows = rows })

-- The rows of the fragments of these numbers are exactly those of their files.
abbrev pub AreOpened : List Store → (ℕ → List ℕ) → List ℕ → List (List Row) → Type 0
AreOpened stores files numbers opened =
    (fact : Fact (List ℕ)) → Contains numbers fact.relation → IsRowOf (held_by opened) fact ↔ IsFileRow stores files fact
