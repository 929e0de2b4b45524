use Rattle.std.proofs.Common.{◌++◌, ℕ, take, Contains}
use Rattle.esto_condchase.specs.Rounds.{IsUnionMet}
use Rattle.esto_condchase.proofs.joining.join_one.Given as goal
use Rattle.esto_condchase.proofs.JoinLemmas.{AreToldSoFar}

abbrev pub invariant-seconds : goal.invariant-seconds
invariant-seconds l = AreToldSoFar l.entries l.initial.more l.more l.initial.sets l.sets l.from l.to
    ((second : ℕ) → Contains (take l.second-index l.seconds) second
    → IsUnionMet l.entries l.since (l.entries ++ l.more) l.first second l.from l.to)
