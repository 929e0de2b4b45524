use Rattle.esto_condchase.proofs.RoundLemmas.{values_are}
use Rattle.esto_condchase.proofs.rounds.answer_tuple_at_way.Goals as goal

pub answer_head-requires-clause-values_are : goal.answer_head-requires-clause-values_are
answer_head-requires-clause-values_are c = values_are c.args.rule.now.body c.args.rule.now.head _ c.args.from.now _ c.args.way.now.to c.in_ok-values.values _
    c.args.shared.now c.items.ensures c.requires.from_is c.items-2.ensures c.items-3.ensures c.requires.shared_is c.in_ok-values.ensures
