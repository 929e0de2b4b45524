use Rattle.std.proofs.Common.{take}
use Rattle.esto_part_cases.specs.Leading.{AreBelow}
use Rattle.esto_part_cases.proofs.chasing.are_below.Given as goal

abbrev pub invariant-atoms : goal.invariant-atoms
invariant-atoms l = AreBelow l.relations (take l.atom-index l.atoms)
