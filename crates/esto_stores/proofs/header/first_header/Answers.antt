use Rattle.std.proofs.Common.{sym, subst}
use Rattle.esto_stores.specs.Header.{ReadsHeader}
use Rattle.esto_stores.specs.Left.{left_of}
use Rattle.esto_stores.proofs.RowLemmas.{taken_some}
use Rattle.esto_stores.proofs.header.first_header.Goals as goal

pub returns-in-Ok-true-clause-header : goal.returns-in-Ok-true-clause-header
returns-in-Ok-true-clause-header c =
    subst (λ records. ReadsHeader c.args.columns.now records (left_of c.read_next.new.reader) c.header_of.result)
    (sym (taken_some _ _ _ _ c.in-Ok-true.ensures.taken c.in-Ok-true.field-0-test))
    (c.header_of.ensures (left_of c.read_next.new.reader))
