use Rattle.std.proofs.Common.{subst, sym}
use Rattle.std.proofs.Common.{◌≤◌}
use Rattle.esto_fill.proofs.RecordLemmas.{unnamed_past}
use Rattle.esto_fill.proofs.record.is_named.Goals as goal

pub returns-then-place-len : goal.returns-then-place-len
returns-then-place-len c =
    sym (unnamed_past c.args.names.now c.args.term.now c.in-Plain.variable c.in-Plain.is
    (subst (λ n. n ≤ c.in-Plain.variable) c.len.ensures c.if-place-len.true))
