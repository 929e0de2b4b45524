use Rattle.esto_coded.proofs.MeetLemmas.{over_told, shared_body, shared_both}
use Rattle.esto_coded.proofs.coded.CodedFacts.meets_over.Goals as goal

pub answers_by_indexes-requires : goal.answers_by_indexes-requires
answers_by_indexes-requires c = shared_body c.args.body.now c.args.head.now c.args.shared.now c.requires.shared

pub go_on-requires-clause-fixed : goal.go_on-requires-clause-fixed
go_on-requires-clause-fixed c = shared_both c.args.body.now c.args.head.now c.args.shared.now c.requires.shared

pub returns-clause-met : goal.returns-clause-met
returns-clause-met c =
    over_told c.go_on.result c.args.body.now c.args.head.now c.requires.rule c.args.shared.now c.requires.shared c.args.self.now c.answers_by_indexes.new.self
    c.go_on.new.self c.answers_by_indexes.ensures.stays
    c.go_on.ensures.stays c.in_ok-given.ensures.constants c.in_ok-given.given.rows c.in_ok-given.ensures.rows c.go_on.ensures.texts
    c.go_on.ensures.each

pub go_on-requires-clause-texts : goal.go_on-requires-clause-texts
go_on-requires-clause-texts c = c.in_ok-given.ensures.texts
