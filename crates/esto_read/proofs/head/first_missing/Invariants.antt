use Rattle.std.proofs.Common.{take}
use Rattle.esto_read.specs.Heads.{AreMentioned}
use Rattle.esto_read.proofs.head.first_missing.Given as goal

abbrev pub invariant-terms : goal.invariant-terms
invariant-terms l = AreMentioned l.body (take l.place l.head)
