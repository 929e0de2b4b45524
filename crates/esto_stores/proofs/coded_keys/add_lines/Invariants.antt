use Rattle.std.proofs.Common.{length}
use Rattle.esto_ports.specs.declared.file_fault.FileKind.TheVariants as kinds
use Rattle.esto_stores.specs.Keys.{key_rows}
use Rattle.esto_stores.proofs.CodedLemmas.{HasRows}
use Rattle.esto_stores.proofs.coded_keys.add_lines.Given as goal

abbrev pub invariant-lines : goal.invariant-lines
invariant-lines l =
    HasRows kinds.Cells l.fn.coded.arity (λ cells. cells) (key_rows l.fn.bytes) (key_rows l.rest) l.fn.codes l.codes l.fn.coded.arity l.coded

abbrev pub decreases-lines : goal.decreases-lines
decreases-lines l = length l.rest
