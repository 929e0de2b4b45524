use Rattle.std.proofs.Common.{Contains, sym, subst}
use Rattle.std.proofs.lemmas.Result.{on_ok_weaker}
use Rattle.esto_semantics.specs.Rules.{equality}
use Rattle.esto_constraint.specs.Constraints.{rules_of}
use Rattle.esto_condchase.proofs.RoundLemmas.{ways_all}
use Rattle.esto_condchase.proofs.rounds.answer_equalities.Goals as goal

pub answer_equality_ways-requires-clause-found : goal.answer_equality_ways-requires-clause-found
answer_equality_ways-requires-clause-found c way inside = c.in_ok-found.ensures.found.sound way (subst (λ it. Contains it way) c.items.ensures inside)

pub answer_equality_ways-requires-clause-counted : goal.answer_equality_ways-requires-clause-counted
answer_equality_ways-requires-clause-counted c way inside = c.in_ok-found.ensures.counted way (subst (λ it. Contains it way) c.items.ensures inside)

pub returns-clause-answered : goal.returns-clause-answered
returns-clause-answered c = on_ok_weaker c.answer_equality_ways.result
    (λ answered. ways_all (rules_of c.args.rules.now) c.args.count c.args.entries.now c.args.number
    (equality c.args.rule.now.body c.args.rule.now.left c.args.rule.now.right) c.in_ok-found.found c.args.since c.answer_equality_ways.new.more
    c.in_ok-found.ensures.found c.requires.before (λ way inside. answered way (subst (λ it. Contains it way) (sym c.items.ensures) inside)))
    c.answer_equality_ways.ensures.answered
