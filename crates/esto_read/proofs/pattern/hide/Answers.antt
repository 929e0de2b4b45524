use Rattle.std.proofs.Common.{arith}
use Rattle.esto_read.proofs.PatternLemmas.{hidden_more}
use Rattle.esto_read.proofs.pattern.hide.Goals as goal

pub names-preserved : goal.names-preserved
names-preserved c =
    rw c.in_ok-push.ensures.ok
    (hidden_more c.args.names.now c.args.count c.names.names c.names.invariant (omega (arith, c.names-test.true, c.len.ensures)))
