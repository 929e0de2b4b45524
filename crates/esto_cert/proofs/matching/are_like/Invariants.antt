use Rattle.std.proofs.Common.{◌↔◌, drop}
use Rattle.std.specs.List.{AllZip}
use Rattle.esto_chase_laws.specs.WorldMatches.{IsLike}
use Rattle.esto_cert.proofs.matching.are_like.Given as goal

abbrev pub invariant-atoms : goal.invariant-atoms
invariant-atoms l = AllZip IsLike (drop l.place l.body) (drop l.place l.chosen) ↔ AllZip IsLike l.body l.chosen
