use Rattle.std.proofs.Common.{take}
use Rattle.esto_known.specs.Live.{AreOld}
use Rattle.esto_known.proofs.live.has_later.Given as goal

-- the places so far are among the first few
abbrev pub invariant-places : goal.invariant-places
invariant-places l = AreOld l.since (take l.place-index l.places)
