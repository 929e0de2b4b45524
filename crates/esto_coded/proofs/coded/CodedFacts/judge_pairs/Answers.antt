use Rattle.std.proofs.Common.{◌∙◌}
use Rattle.esto_coded.proofs.coded.CodedFacts.judge_pairs.Goals as goal

pub verdict_on_pairs-requires-clause-two : goal.verdict_on_pairs-requires-clause-two
verdict_on_pairs-requires-clause-two c = c.in_ok-rows.ensures.arity ∙ c.requires.two

pub returns-clause-judged : goal.returns-clause-judged
returns-clause-judged c = c.verdict_on_pairs.ensures c.args.self.now c.answers_by_indexes.ensures.stays

pub verdict_on_pairs-requires-clause-fixed : goal.verdict_on_pairs-requires-clause-fixed
verdict_on_pairs-requires-clause-fixed c = c.requires.fixed

pub verdict_on_pairs-requires-clause-texts : goal.verdict_on_pairs-requires-clause-texts
verdict_on_pairs-requires-clause-texts c = c.in_ok-rows.ensures.texts

pub verdict_on_pairs-requires-clause-constants : goal.verdict_on_pairs-requires-clause-constants
verdict_on_pairs-requires-clause-constants c = c.in_ok-rows.ensures.constants

pub verdict_on_pairs-requires-clause-rows : goal.verdict_on_pairs-requires-clause-rows
verdict_on_pairs-requires-clause-rows c = c.in_ok-rows.ensures.rows
