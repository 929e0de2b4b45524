use Rattle.std.proofs.Common.{◌≡◌, ◌++◌, take}
use Rattle.esto_coded.proofs.meets.put_atoms.Given as goal

abbrev pub invariant-atoms : goal.invariant-atoms
invariant-atoms l = l.into ≡ l.initial.into ++ take l.atom-index l.atoms
