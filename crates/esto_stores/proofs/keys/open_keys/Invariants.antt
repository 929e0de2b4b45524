use Rattle.std.proofs.Common.{length}
use Rattle.esto_ports.specs.declared.file_fault.FileKind.TheVariants as kinds
use Rattle.esto_stores.specs.Keys.{key_rows}
use Rattle.esto_stores.proofs.RowLemmas.{HasRead}
use Rattle.esto_stores.proofs.keys.open_keys.Given as goal

abbrev pub invariant-lines : goal.invariant-lines
invariant-lines l = HasRead kinds.Cells l.fn.cells (λ cells. cells) (key_rows l.fn.bytes) (key_rows l.rest) l.rows

abbrev pub decreases-lines : goal.decreases-lines
decreases-lines l = length l.rest
