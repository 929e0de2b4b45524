use Rattle.std.proofs.Common.{ap, length, ◌∙◌}
use Rattle.std.proofs.lemmas.Result.{IfOk-weaker}
use Rattle.esto_coded.proofs.MeetLemmas.{sides_fixed}
use Rattle.esto_coded.proofs.coded.CodedFacts.judge_sides.Goals as goal

pub judge_pairs-requires-clause-two : goal.judge_pairs-requires-clause-two
judge_pairs-requires-clause-two c = ap length (c.items.ensures ∙ c.in_ok-sides.ensures)

pub judge_pairs-requires-clause-fixed : goal.judge_pairs-requires-clause-fixed
judge_pairs-requires-clause-fixed c =
    sides_fixed c.args.body.now c.args.left.now c.args.right.now c.items.result.now (c.items.ensures ∙ c.in_ok-sides.ensures) c.requires.left
    c.requires.right

pub returns-clause-judged : goal.returns-clause-judged
returns-clause-judged c = IfOk-weaker c.judge_pairs.result _ _
    (λ verdict judged. judged c.args.left.now c.args.right.now (c.items.ensures ∙ c.in_ok-sides.ensures)) c.judge_pairs.ensures.judged
