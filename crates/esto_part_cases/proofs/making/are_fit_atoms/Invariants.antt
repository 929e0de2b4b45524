use Rattle.std.proofs.Common.{take}
use Rattle.esto_part_cases.specs.Bodies.{AreFitAtoms}
use Rattle.esto_part_cases.proofs.making.are_fit_atoms.Given as goal

abbrev pub invariant-atoms : goal.invariant-atoms
invariant-atoms l = AreFitAtoms l.relations 100 (take l.atom-index l.atoms)
