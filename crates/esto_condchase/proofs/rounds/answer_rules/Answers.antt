use Rattle.std.proofs.lemmas.List.{length-map}
use Rattle.esto_constraint.specs.Constraints.{rule_of, rules_of}
use Rattle.esto_term.proofs.PlaceLemmas.{item_at}
use Rattle.esto_condchase.proofs.RoundLemmas.{rule_at, rules_turn, rules_all}
use Rattle.esto_condchase.proofs.rounds.answer_rules.Goals as goal

pub answer_rule-requires-clause-at : goal.answer_rule-requires-clause-at
answer_rule-requires-clause-at c = rule_at c.args.rules.now c.rules.number c.index-rules-number.result
    (item_at c.args.rules.now c.rules.number c.index-rules-number.result c.rules-test.true c.index-rules-number.is)

pub answer_rule-requires-clause-before : goal.answer_rule-requires-clause-before
answer_rule-requires-clause-before c =
    let at = rule_at c.args.rules.now c.rules.number c.index-rules-number.result
    (item_at c.args.rules.now c.rules.number c.index-rules-number.result c.rules-test.true c.index-rules-number.is) in
    λ atoms chosen. c.requires.before atoms c.rules.number (rule_of c.index-rules-number.result) at chosen

pub rules-preserved : goal.rules-preserved
rules-preserved c =
    let at = rule_at c.args.rules.now c.rules.number c.index-rules-number.result
    (item_at c.args.rules.now c.rules.number c.index-rules-number.result c.rules-test.true c.index-rules-number.is) in
    let turn = rules_turn (rules_of c.args.rules.now) c.args.count c.args.entries.now c.rules.more c.answer_rule.new.more c.rules.number
    (rule_of c.index-rules-number.result) at
    c.rules.invariant.grows c.rules.invariant.answered c.in_ok-answer_rule.ensures.grows c.in_ok-answer_rule.ensures.answered in
    record { grows = turn.0; answered = turn.1 }

pub returns-clause-answered : goal.returns-clause-answered
returns-clause-answered c = rules_all (rules_of c.args.rules.now) c.args.entries.now _ c.rules.number
    (rw (length-map c.args.rules.now rule_of) c.rules-test.false) c.rules.invariant.answered
