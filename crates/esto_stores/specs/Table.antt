-- The rows of a CSV file, or its first fault.
use Rattle.std.specs.Prelude.{◌==◌, ◌+◌, ℕ, if◌then◌else◌, List, [], ◌∷◌, map, length, slice_index_or, count_by, bytes_eq, Option, Some, None}
use Rattle.std.specs.List.{position_or_len}
use Rattle.csv.specs.Reading.{default_config, is_bom, records}
use Rattle.esto_ports.specs.declared.file_fault.FileFault.{FileFault}
use Rattle.esto_ports.specs.declared.file_fault.FileKind.TheVariants.{NoHeader, Header, Length, NotUtf8}
use Rattle.esto_ports.specs.FileFaults.{fault_at, or_else}
use Rattle.esto_stores.specs.Rows.{Row, are_texts, first_fault}

-- The bytes after each byte-order mark that stands at their start.
unfoldable pub without_marks : List ℕ → List ℕ
without_marks [] = []
without_marks (a ∷ []) = a ∷ []
without_marks (a ∷ b ∷ []) = a ∷ b ∷ []
without_marks (a ∷ b ∷ c ∷ rest) = if is_bom a b c then without_marks rest else a ∷ b ∷ c ∷ rest

-- The records of a file, its header first.
abbrev pub records_of : List ℕ → List Row
records_of bytes = records default_config (without_marks bytes)

-- How many cells of the header are this name.
abbrev pub times_in : Row → List ℕ → ℕ
times_in header name = count_by (λ cell. bytes_eq cell name) header

-- Where the first of them is.
abbrev pub place_in : Row → List ℕ → ℕ
place_in header name = position_or_len (λ cell. bytes_eq cell name) header

-- The cells at these places.
abbrev pub cells_at : List ℕ → Row → Row
cells_at places cells = map (λ place. slice_index_or cells place []) places

-- The cells of the declared columns, in declared order.
abbrev pub declared : Row → Row → Row → Row
declared header columns = cells_at (map (place_in header) columns)

-- The first declared column, counted from the number, that the header has not exactly once.
unfoldable pub header_fault : Row → ℕ → Row → Option FileFault
header_fault header number [] = None
header_fault header number (name ∷ rest) =
    if times_in header name == 1 then header_fault header (number + 1) rest else Some (fault_at Header number)

-- The first fault of records: no header, a cell of the header that is not UTF-8, a declared column that it has not once, and
-- then what is wrong with the rows under it.
abbrev pub fault_of_records : Row → List Row → Option FileFault
fault_of_records columns [] = Some (fault_at NoHeader 0)
fault_of_records columns (header ∷ rows) =
    if are_texts header then
    or_else (header_fault header 1 columns) (first_fault Length (length header) (declared header columns) 1 rows)
    else Some (fault_at NotUtf8 0)

-- The rows of records: of each record under the header the cells of the declared columns.
abbrev pub rows_of_records : Row → List Row → List Row
rows_of_records columns [] = []
rows_of_records columns (header ∷ rows) = map (declared header columns) rows

-- The first fault of a CSV file with these columns.
unfoldable pub table_fault : Row → List ℕ → Option FileFault
table_fault columns bytes = fault_of_records columns (records_of bytes)

-- The rows of a CSV file with these columns.
unfoldable pub table_rows : Row → List ℕ → List Row
table_rows columns bytes = rows_of_records columns (records_of bytes)
