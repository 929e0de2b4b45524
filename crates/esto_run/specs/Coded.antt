-- Rows of codes, and the rows of texts that they are.
use Rattle.std.specs.Prelude.{◌↔◌, ◌<◌, ℕ, List, length, map, Contains}
use Rattle.esto_columns.specs.Interned.{AreCodesOf}
use Rattle.esto_columns.specs.declared.stored.StoredRows.{StoredRows}
use Rattle.esto_steps.specs.Rows.{IsRowOf, held_by}
use Rattle.esto_semantics.specs.declared.fact.Fact.{Fact}
use Rattle.esto_stores.specs.Rows.{Row}
use Rattle.esto_run.specs.Opened.{held_of, rows_held}

-- The fact is a row of the fragment that its relation numbers, where the stored rows have the codes of these texts.
abbrev pub IsStoredRow : List (List ℕ) → List StoredRows → Fact (List ℕ) → Type 0
IsStoredRow texts stored = IsRowOf (held_by (rows_held (map (held_of texts) stored)))

-- One of the rows of codes has the codes of the row's texts.
abbrev pub IsCodedRow : List (List ℕ) → List (List ℕ) → Row → Type 0
IsCodedRow texts coded row = (codes : List ℕ) × Contains coded codes × AreCodesOf texts codes row

-- Each code of the rows is that of a text, and their texts are exactly these rows.
pub record AreCodesOfAll (texts coded : List (List ℕ)) (Has : Row → Type 0) : Type 0 where
  pub below : (codes : List ℕ) → Contains coded codes → (code : ℕ) → Contains codes code → code < length texts
  pub exact : (row : Row) → IsCodedRow texts coded row ↔ Has row
