use Rattle.std.proofs.Common.{length}
use Rattle.esto_ports.specs.declared.file_fault.FileKind.TheVariants as kinds
use Rattle.esto_stores.specs.Left.{Reads, left_of}
use Rattle.esto_stores.specs.Table.{cells_at}
use Rattle.esto_stores.proofs.RowLemmas.{HasRead}
use Rattle.esto_stores.proofs.table.read_rows.Given as goal

abbrev pub invariant-records : goal.invariant-records
invariant-records l =
    Reads l.reader × HasRead kinds.Length l.width (cells_at l.places) (left_of l.fn.reader) (left_of l.reader) l.rows

abbrev pub decreases-records : goal.decreases-records
decreases-records l = length (left_of l.reader)
