use Rattle.std.proofs.Common.{◌≡◌, map, take}
use Rattle.esto_query.proofs.left.AtomsLeft.of.Given as goal

abbrev pub invariant-atoms : goal.invariant-atoms
invariant-atoms l = map (λ waiting. waiting.atom.now) l.atoms.items ≡ take l.atom-index l.body
