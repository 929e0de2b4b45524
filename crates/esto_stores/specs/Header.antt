-- What the header of a CSV file gives.
use Rattle.std.specs.Prelude.{◌≡◌, List, map, length, Some, Result, Ok, Err}
use Rattle.esto_ports.specs.declared.file_fault.FileKind.TheVariants.{Length}
use Rattle.esto_ports.specs.declared.file_fault.FileError.{FileError}
use Rattle.esto_ports.specs.declared.file_fault.FileError.TheVariants as content
use Rattle.esto_stores.specs.Rows.{Row, first_fault}
use Rattle.esto_stores.specs.Table.{cells_at, fault_of_records, rows_of_records}
use Rattle.esto_stores.specs.declared.header.Header.{Header}

-- The rows of records that begin with this header are the cells at its places of the records after it, and their first fault
-- is that of those records; or this is the first fault; or memory is wanting.
abbrev pub ReadsHeader : Row → List Row → List Row → Result Header FileError → Type 0
ReadsHeader columns records rows (Ok header) =
    ((rows_of_records columns records ≡ map (cells_at header.places) rows) × (length header.places ≡ length columns))
    × (fault_of_records columns records ≡ first_fault Length header.width (cells_at header.places) 1 rows)
ReadsHeader columns records rows (Err (content.Fault found)) = fault_of_records columns records ≡ Some found
ReadsHeader columns records rows (Err content.OutOfMemory) = Unit {0}
