use Rattle.std.proofs.Common.{◌++◌, take, Contains}
use Rattle.esto_semantics.specs.Rules.{tuple}
use Rattle.esto_constraint.specs.Constraints.{rules_of}
use Rattle.esto_known.specs.declared.way.Way.{Way}
use Rattle.esto_condchase.specs.Rounds.{IsAnswered}
use Rattle.esto_condchase.proofs.rounds.answer_tuple_at_each_way.Given as goal
use Rattle.esto_condchase.proofs.RoundLemmas.{AreAnsweredSoFar}

abbrev pub invariant-ways : goal.invariant-ways
invariant-ways l = AreAnsweredSoFar (rules_of l.rules) l.count l.entries l.fn.more l.more
    ((way : Way) → Contains (take l.way-index l.ways) way → IsAnswered (l.entries ++ l.more) l.number (tuple l.rule.body l.rule.head) way)
