use Rattle.std.proofs.Common.{◌≡◌, map, take}
use Rattle.esto_coded.specs.Mirrored.{renamed}
use Rattle.esto_coded.proofs.mirrored.all_go.Given as goal

abbrev pub invariant-places : goal.invariant-places
invariant-places l = map (renamed l.from l.to) (take l.place l.terms) ≡ take l.place l.others
