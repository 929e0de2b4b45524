use Rattle.std.proofs.Common.{take}
use Rattle.esto_known.specs.Groups.{AreLeft}
use Rattle.esto_known.proofs.group.left_of.Given as goal

-- those that are left of the places so far
abbrev pub invariant-places : goal.invariant-places
invariant-places l = AreLeft l.entries l.product (take l.place-index l.places) l.left
