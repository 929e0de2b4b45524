use Rattle.std.proofs.Common.{length}
use Rattle.esto_ports.specs.declared.file_fault.FileKind.TheVariants as kinds
use Rattle.esto_stores.specs.Left.{Reads, left_of}
use Rattle.esto_stores.specs.Table.{cells_at}
use Rattle.esto_stores.proofs.CodedLemmas.{HasRows}
use Rattle.esto_stores.proofs.coded_table.add_records.Given as goal

abbrev pub invariant-records : goal.invariant-records
invariant-records l = Reads l.reader × HasRows kinds.Length l.header.width (cells_at l.header.places) (left_of l.fn.reader) (left_of l.reader) l.fn.codes
    l.codes (length l.header.places) l.coded

abbrev pub decreases-records : goal.decreases-records
decreases-records l = length (left_of l.reader)
