use Rattle.std.proofs.Common.{◌+◌, ◌*◌, take}
use Rattle.esto_prov.specs.Derivations.{AreWhys}
use Rattle.esto_prov.proofs.why.+why.Given as goal

abbrev pub decreases-why_of : goal.decreases-why_of
decreases-why_of l = 2 * l.at + 1

abbrev pub decreases-whys_of : goal.decreases-whys_of
decreases-whys_of l = 2 * l.bound

-- the derivations so far
abbrev pub invariant-whys_of-places : goal.invariant-whys_of-places
invariant-whys_of-places l = AreWhys l.entries (take l.place-index l.places) l.whys
