use Rattle.std.proofs.Common.{◌++◌}
use Rattle.esto_condchase.proofs.JoinLemmas.{AreMetBefore, AreMetSoFar}
use Rattle.esto_condchase.proofs.joining.join_groups.Given as goal

abbrev pub invariant-firsts : goal.invariant-firsts
invariant-firsts l = AreMetSoFar l.count l.entries l.initial.more l.more
    (AreMetBefore l.entries l.groups l.since (l.entries ++ l.more) l.number)
