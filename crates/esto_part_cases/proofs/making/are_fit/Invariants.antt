use Rattle.std.proofs.Common.{take}
use Rattle.esto_part_cases.specs.Bodies.{AreFit}
use Rattle.esto_part_cases.proofs.making.are_fit.Given as goal

abbrev pub invariant-terms : goal.invariant-terms
invariant-terms l = AreFit 100 (take l.term-index l.terms)
