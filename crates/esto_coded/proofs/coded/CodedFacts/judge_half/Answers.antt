use Rattle.std.proofs.Common.{arith}
use Rattle.std.proofs.lemmas.Result.{IfOk-weaker}
use Rattle.esto_coded.proofs.coded.CodedFacts.judge_half.Goals as goal

pub verdict_on_half-requires-clause-wide : goal.verdict_on_half-requires-clause-wide
verdict_on_half-requires-clause-wide c = let wide = c.in_ok-rows.ensures.arity in omega (arith, wide)

pub returns-clause-judged : goal.returns-clause-judged
returns-clause-judged c = IfOk-weaker c.verdict_on_half.result _ _ (λ verdict judged. judged c.args.self.now c.answers_by_indexes.ensures.stays)
    c.verdict_on_half.ensures

pub verdict_on_half-requires-clause-texts : goal.verdict_on_half-requires-clause-texts
verdict_on_half-requires-clause-texts c = c.in_ok-rows.ensures.texts

pub verdict_on_half-requires-clause-constants : goal.verdict_on_half-requires-clause-constants
verdict_on_half-requires-clause-constants c = c.in_ok-rows.ensures.constants

pub verdict_on_half-requires-clause-rows : goal.verdict_on_half-requires-clause-rows
verdict_on_half-requires-clause-rows c = c.in_ok-rows.ensures.rows
