use Rattle.std.proofs.Common.{◌≡◌, ◌++◌, take}
use Rattle.esto_core.proofs.left.push_atoms.Given as goal

abbrev pub invariant-atoms : goal.invariant-atoms
invariant-atoms l = l.list ≡ l.initial.list ++ take l.atom-index l.atoms
