use Rattle.std.proofs.Common.{take}
use Rattle.esto_fill.specs.Wanted.{AdmitsAll}
use Rattle.esto_fill.proofs.wanted.texts_in.Given as goal

-- what the atoms of the bodies so far have at their second place is there
abbrev pub invariant-bodies : goal.invariant-bodies
invariant-bodies l = AdmitsAll l.relation (take l.body-index l.bodies) l.texts
