use Rattle.std.proofs.Common.{Contains, sym, subst}
use Rattle.std.proofs.lemmas.Result.{on_ok_weaker}
use Rattle.esto_semantics.specs.Rules.{tuple}
use Rattle.esto_constraint.specs.Constraints.{rules_of}
use Rattle.esto_condchase.proofs.RoundLemmas.{ways_all}
use Rattle.esto_condchase.proofs.rounds.answer_tuple_rule.Goals as goal

pub find_terms_and_answer_tuple-requires-clause-found : goal.find_terms_and_answer_tuple-requires-clause-found
find_terms_and_answer_tuple-requires-clause-found c way inside = c.in_ok-found.ensures.found.sound way (subst (λ it. Contains it way) c.items.ensures inside)

pub find_terms_and_answer_tuple-requires-clause-counted : goal.find_terms_and_answer_tuple-requires-clause-counted
find_terms_and_answer_tuple-requires-clause-counted c way inside = c.in_ok-found.ensures.counted way (subst (λ it. Contains it way) c.items.ensures inside)

pub returns-clause-answered : goal.returns-clause-answered
returns-clause-answered c = on_ok_weaker c.find_terms_and_answer_tuple.result
    (λ answered. ways_all (rules_of c.args.rules.now) c.args.count c.args.entries.now c.args.number
    (tuple c.args.rule.now.body c.args.rule.now.head) c.in_ok-found.found c.args.since c.find_terms_and_answer_tuple.new.more
    c.in_ok-found.ensures.found c.requires.before (λ way inside. answered way (subst (λ it. Contains it way) (sym c.items.ensures) inside)))
    c.find_terms_and_answer_tuple.ensures.answered
