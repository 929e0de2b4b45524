use Rattle.std.proofs.lemmas.Result.{IfOk-weaker}
use Rattle.esto_coded.proofs.coded.CodedFacts.judge.Goals as goal

pub returns-clause-met : goal.returns-clause-met
returns-clause-met c = IfOk-weaker c.judge_rule.result _ _ (λ verdict judged. judged.met) c.judge_rule.ensures.judged

pub returns-clause-part : goal.returns-clause-part
returns-clause-part c = IfOk-weaker c.judge_rule.result _ _ (λ verdict judged. judged.part) c.judge_rule.ensures.judged
