use Rattle.std.proofs.Common.{take}
use Rattle.esto_condchase.specs.Rounds.{AreOpen}
use Rattle.esto_condchase.proofs.joining.open_places.Given as goal

-- the places so far but for those that are covered
abbrev pub invariant-places : goal.invariant-places
invariant-places l = AreOpen l.entries l.sets.sets (take l.place-index l.places) l.open
