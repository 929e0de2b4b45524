-- What a CSV reader over bytes in memory has left to give.
use Rattle.std.specs.Prelude.{◌≡◌, ◌+◌, ℕ, Bool, true, false, List, [], ◌∷◌, length, Option, Some, None}
use Rattle.std.proofs.Common.{Bor}
use Rattle.esto_stores.specs.Rows.{Row}
use Rattle.csv.specs.Machine.{ends_at_end}
use Rattle.csv.specs.Reading.{Ready, source_of, records_from, default_config, reader_trim, reader_config, is_flexible, reader_state}
use Rattle.csv.specs.declared.reader.Reader.{Reader}
use Rattle.csv.specs.declared.reader.Trim.TheVariants as trim
use Rattle.csv.specs.declared.parser.State.{State}
use Rattle.csv.specs.declared.error.ErrorKind.{ErrorKind}
use Rattle.csv.specs.declared.error.ErrorKind.TheVariants as kind

-- Every record of a text from a state on.
abbrev pub records_at : State → List ℕ → List Row
records_at state bytes = records_from default_config (length bytes + 1) state bytes

-- The bytes that a reader of bytes in memory has left.
abbrev pub bytes_left : Reader (Bor (List ℕ)) → Option (List ℕ)
bytes_left reader = source_of (λ s. Some s.now) reader

-- The records of known bytes.
abbrev pub records_of_known : State → Option (List ℕ) → List Row
records_of_known state None = []
records_of_known state (Some bytes) = records_at state bytes

-- The records that a reader has left.
unfoldable pub left_of : Reader (Bor (List ℕ)) → List Row
left_of reader = records_of_known (reader_state reader) (bytes_left reader)

-- A reader that stands between two records, gives every record as it stands, and has not failed.
pub record Reads (reader : Reader (Bor (List ℕ))) : Type 0 where
  pub trim : reader_trim reader ≡ trim.None
  pub ready : Ready reader
  pub config : reader_config reader ≡ default_config
  pub flexible : is_flexible reader ≡ true
  pub between : ends_at_end (reader_state reader) ≡ false
  pub known : (bytes : List ℕ) × (bytes_left reader ≡ Some bytes)

-- The kinds of errors that reading records of any length from memory leaves.
abbrev pub IsWant : ErrorKind → Type 0
IsWant (kind.Io e) = Unit {0}
IsWant kind.OutOfMemory = Unit {0}
IsWant (kind.UnequalLengths pos expected len) = ⊥
IsWant (kind.Utf8 pos err) = ⊥
IsWant (kind.Serialize why) = ⊥
IsWant (kind.Deserialize pos err) = ⊥

-- What a read of the next record gives: the first of the records that were left, or that there was none.
abbrev pub Takes : List Row → Bool → Row → List Row → Type 0
Takes before true cells after = before ≡ cells ∷ after
Takes before false cells after = before ≡ []
