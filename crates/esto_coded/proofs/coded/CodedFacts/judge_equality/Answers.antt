use Rattle.std.proofs.lemmas.Result.{IfOk-weaker}
use Rattle.esto_coded.proofs.MirrorLemmas.{turned_rule}
use Rattle.esto_coded.proofs.VerdictLemmas.{turned_judged}
use Rattle.esto_coded.proofs.coded.CodedFacts.judge_equality.Goals as goal

pub judge_halves-requires-2 : goal.judge_halves-requires-2
judge_halves-requires-2 c = turned_rule c.args.body.now c.args.left.now c.args.right.now c.requires

pub returns-clause-judged : goal.returns-clause-judged
returns-clause-judged c =
    IfOk-weaker c.judge_halves-2.result _ _ (turned_judged c.args.self.now c.args.body.now c.args.right.now c.args.left.now) c.judge_halves-2.ensures.judged
