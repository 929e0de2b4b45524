use Rattle.std.proofs.Common.{◌≡◌, ◌++◌, take, drop}
use Rattle.esto_semantics.specs.Facts.{terms_of}
use Rattle.esto_condchase.specs.Ways.{AreFound}
use Rattle.esto_known.specs.KeptWays.{AreCounted}
use Rattle.esto_condchase.proofs.ways.matches_of.Given as goal

abbrev pub invariant-atoms : goal.invariant-atoms
invariant-atoms l = record {
  found : AreFound l.known (take l.place l.body) (terms_of (drop l.place l.body) ++ l.asked) l.sides l.ways;
  from_is : l.from ≡ terms_of (take l.place l.body);
  counted : AreCounted l.count l.ways;
}
