use Rattle.std.proofs.Common.{None}
use Rattle.esto_coded.proofs.VerdictLemmas.{judged_met, judged_broken}
use Rattle.esto_coded.proofs.verdict.verdict_of.Goals as goal

pub returns-then-met : goal.returns-then-met
returns-then-met c coded rule whether = judged_met coded rule c.args.met whether c.if-met.true

pub returns : goal.returns
returns c coded rule whether = judged_broken coded rule c.args.met whether c.if-met.false None tt
