use Rattle.esto_constraint.specs.Constraints.{rules_of}
use Rattle.esto_condchase.proofs.RoundLemmas.{made_is, head_turn, head_all}
use Rattle.esto_condchase.proofs.rounds.answer_head.Goals as goal

pub head-preserved : goal.head-preserved
head-preserved c =
    let fact = made_is c.args.number c.args.rule.now.body c.args.rule.now.head _ c.args.from.now _ c.args.way.now.to c.args.values.now
    c.atom-item.result c.in_ok-fact.fact
    c.items.ensures c.requires.from_is c.items-in-head.ensures c.requires.values_are c.in_ok-fact.ensures in
    let turn = head_turn (rules_of c.args.rules.now) c.args.number c.args.rule.now.body c.args.rule.now.head c.requires.at c.args.entries.now c.args.way.now
    c.requires.found
    c.items-atom-items.result.now c.head.atom-index c.atom-item.result c.in_ok-fact.fact c.args.more.now c.head.more c.ask.new.more
    c.items-atom-items.ensures c.head-test.true c.atom-item.is fact c.in_ok-ask.ensures
    c.head.invariant.grows c.head.invariant.there in
    record { grows = turn.0; there = turn.1 }

pub returns-clause-answered : goal.returns-clause-answered
returns-clause-answered c =
    head_all (rules_of c.args.rules.now) c.args.number c.args.rule.now.body c.args.rule.now.head c.requires.at c.args.entries.now c.args.way.now
    c.requires.found
    c.items-atom-items.result.now c.head.atom-index c.head.more c.items-atom-items.ensures c.head-test.false c.head.invariant.there
