use Rattle.std.proofs.Common.{◌≡◌, ◌+◌, drop}
use Rattle.esto_exec.specs.Turns.{place_in}
use Rattle.esto_exec.proofs.slots.place_in.Given as goal

abbrev pub invariant-places : goal.invariant-places
invariant-places l = l.place + place_in (drop l.place l.other-items) l.slot ≡ place_in l.places l.slot
