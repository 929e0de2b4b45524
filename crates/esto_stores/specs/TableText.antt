-- The text of a CSV file.
use Rattle.std.specs.Prelude.{◌≡◌, ◌∷◌, ◌++◌, ℕ, List, [], false, slice_index, flat_map, ⊤, Vec}
use Rattle.csv.specs.Reading.{is_bom}
use Rattle.csv.specs.Writing.{default_writer, row_text, writer_setup, fields_written, has_written, writer_under, writer_pending}
use Rattle.csv.specs.declared.writer.Writer.{Writer}
use Rattle.esto_stores.specs.Rows.{Row}

-- The records of a file one after the other.
abbrev pub records_text : List Row → List ℕ
records_text rows = flat_map (row_text default_writer) rows

-- The text of a file with these columns and rows.
abbrev pub table_text : Row → List Row → List ℕ
table_text columns rows = records_text (columns ∷ rows)

-- The bytes begin with no byte-order mark.
abbrev pub HasNoMark : List ℕ → Type 0
HasNoMark bytes = is_bom (slice_index bytes 0) (slice_index bytes 1) (slice_index bytes 2) ≡ false

-- The first of the names begins with no byte-order mark.
abbrev pub StartsPlain : Row → Type 0
StartsPlain [] = ⊤
StartsPlain (name ∷ names) = HasNoMark name

-- What a writer over bytes in memory has written, its buffer included.
abbrev pub written : {Z : Type 0} → Writer (Vec ℕ Z) → List ℕ
written writer = (writer_under writer).items ++ writer_pending writer

-- A writer with the default settings that stands between two records.
pub record Writes {Z : Type 0} (writer : Writer (Vec ℕ Z)) : Type 0 where
  pub setup : writer_setup writer ≡ default_writer
  pub fields : fields_written writer ≡ 0
  pub blank : has_written writer ≡ false
