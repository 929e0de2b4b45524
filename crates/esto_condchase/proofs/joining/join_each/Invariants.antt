use Rattle.std.proofs.Common.{◌++◌, ℕ, take, Contains}
use Rattle.esto_condchase.specs.Rounds.{IsUnionMet}
use Rattle.esto_condchase.proofs.joining.join_each.Given as goal
use Rattle.esto_condchase.proofs.JoinLemmas.{AreToldSoFar}

abbrev pub invariant-firsts : goal.invariant-firsts
invariant-firsts l = AreToldSoFar l.entries l.initial.more l.more l.initial.sets l.sets l.from l.to
    ((first second : ℕ) → Contains (take l.first-index l.firsts) first → Contains l.seconds second
    → IsUnionMet l.entries l.since (l.entries ++ l.more) first second l.from l.to)
