use Rattle.std.proofs.Common.{◌≡◌, map, take}
use Rattle.esto_semantics.specs.Facts.{image}
use Rattle.esto_coded.specs.Mirrored.{renamed}
use Rattle.esto_coded.proofs.mirrored.atoms_go.Given as goal

abbrev pub invariant-places : goal.invariant-places
invariant-places l = map (image (renamed l.from l.to)) (take l.place l.atoms) ≡ take l.place l.others
