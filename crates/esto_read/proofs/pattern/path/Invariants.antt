use Rattle.std.proofs.Common.{take}
use Rattle.std.specs.List.{AllZip}
use Rattle.esto_read.specs.Patterns.{IsStepOf}
use Rattle.esto_read.proofs.pattern.path.Given as goal

abbrev pub invariant-steps : goal.invariant-steps
invariant-steps l = AllZip (IsStepOf l.bytes) (take l.each-index l.steps) l.path
