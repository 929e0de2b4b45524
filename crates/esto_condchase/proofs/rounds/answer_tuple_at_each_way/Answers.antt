use Rattle.std.proofs.Common.{◌++◌, subst, sym}
use Rattle.esto_semantics.specs.Rules.{tuple}
use Rattle.esto_constraint.specs.Constraints.{rules_of}
use Rattle.esto_chase_laws.specs.Worlds.{AreOfCount}
use Rattle.esto_term.proofs.ListLemmas.{Contains-nil, Contains-read, each_seen}
use Rattle.esto_condchase.specs.Rounds.{IsAnswered}
use Rattle.esto_condchase.proofs.AskLemmas.{AsksMore-none}
use Rattle.esto_condchase.proofs.RoundLemmas.{ways_turn}
use Rattle.esto_condchase.proofs.rounds.answer_tuple_at_each_way.Goals as goal

pub ways-init : goal.ways-init
ways-init c = record {
  grows = AsksMore-none (rules_of c.args.rules.now) c.args.count c.args.entries.now c.args.more.now;
  answered = λ way inside. absurd (Contains-nil way inside);
}

pub answer_tuple_at_way-requires-clause-found : goal.answer_tuple_at_way-requires-clause-found
answer_tuple_at_way-requires-clause-found c =
    c.requires.found c.way-item.result (Contains-read c.args.ways.now c.ways.way-index c.way-item.result c.ways-test.true c.way-item.is)

pub answer_tuple_at_way-requires-clause-counts : goal.answer_tuple_at_way-requires-clause-counts
answer_tuple_at_way-requires-clause-counts c = subst (λ n. AreOfCount n c.args.entries.now) (sym (c.requires.counted c.way-item.result
    (Contains-read c.args.ways.now c.ways.way-index c.way-item.result c.ways-test.true c.way-item.is))) c.requires.counts

pub ways-preserved : goal.ways-preserved
ways-preserved c =
    let inside = Contains-read c.args.ways.now c.ways.way-index c.way-item.result c.ways-test.true c.way-item.is in
    let turn = ways_turn (rules_of c.args.rules.now) c.args.count c.args.entries.now c.args.number (tuple c.args.rule.now.body c.args.rule.now.head)
    c.args.ways.now c.ways.way-index c.way-item.result c.args.more.now c.ways.more c.answer_tuple_at_way.new.more c.ways-test.true c.way-item.is
    (c.requires.counted c.way-item.result inside)
    c.ways.invariant.grows c.ways.invariant.answered c.in_ok-answer_tuple_at_way.ensures.grows c.in_ok-answer_tuple_at_way.ensures.answered in
    record { grows = turn.0; answered = turn.1 }

pub returns-clause-grows : goal.returns-clause-grows
returns-clause-grows c = c.ways.invariant.grows

pub returns-clause-answered : goal.returns-clause-answered
returns-clause-answered c = each_seen (IsAnswered (c.args.entries.now ++ c.ways.more) c.args.number (tuple c.args.rule.now.body c.args.rule.now.head))
    c.args.ways.now c.ways.way-index c.ways-test.false c.ways.invariant.answered
