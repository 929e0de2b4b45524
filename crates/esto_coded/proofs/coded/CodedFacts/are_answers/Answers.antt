use Rattle.std.proofs.lemmas.Result.{IfOk-weaker}
use Rattle.esto_coded.proofs.MeetLemmas.{part_told}
use Rattle.esto_coded.proofs.coded.CodedFacts.are_answers.Goals as goal

pub returns-clause-each : goal.returns-clause-each
returns-clause-each c = IfOk-weaker c.is_part.result _ _
    (part_told c.answers_by_indexes.new.self c.args.head.now c.args.body.now c.args.rows.now.rows c.in_ok-answers.answers.rows c.in_ok-answers.ensures.rows)
    c.is_part.ensures
