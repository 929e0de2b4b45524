use Rattle.std.proofs.Common.{◌≡◌, drop}
use Rattle.esto_coded.specs.Mirrored.{renamed}
use Rattle.esto_coded.proofs.mirrored.goes.Given as goal

abbrev pub invariant-places : goal.invariant-places
invariant-places l = renamed l.from l.to l.term ≡ renamed (drop l.place l.from) (drop l.place l.to) l.term
