-- Indexes of rows by the codes that sources name in them.
use Rattle.std.specs.Prelude.{◌≡◌, ℕ, List, Some, length, slice_get}
use Rattle.esto_columns.specs.Indexed.{Index, IsIndexOf}
use Rattle.esto_steps.specs.declared.steps.Source.{Source}
use Rattle.esto_steps.specs.Named.{NamesCodes}

-- The keys stand for the rows, place by place: where the columns name codes in a row, these are its key.
pub record AreKeysOf (columns : List Source) (rows keys : List (List ℕ)) : Type 0 where
  pub long : length keys ≡ length rows
  pub named : (place : ℕ) (row codes : List ℕ) → slice_get rows place ≡ Some row → NamesCodes row columns codes → slice_get keys place ≡ Some codes

-- The index finds the rows by the codes that the columns name in them: it is that of keys of the rows.
abbrev pub FindsRows : List (List ℕ) → List Source → Index → Type 0
FindsRows rows columns index = (keys : List (List ℕ)) × IsIndexOf index keys × AreKeysOf columns rows keys
