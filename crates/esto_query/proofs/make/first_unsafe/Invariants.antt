use Rattle.std.proofs.Common.{take}
use Rattle.esto_query.specs.Soundness.{IsSafe}
use Rattle.esto_query.proofs.make.first_unsafe.Given as goal

abbrev pub invariant-loop-term : goal.invariant-loop-term
invariant-loop-term l = IsSafe (take l.term-index l.head) l.body
