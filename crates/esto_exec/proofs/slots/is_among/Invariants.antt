use Rattle.std.proofs.Common.{◌≡◌, drop}
use Rattle.esto_exec.specs.Turns.{is_among}
use Rattle.esto_exec.proofs.slots.is_among.Given as goal

abbrev pub invariant-slots : goal.invariant-slots
invariant-slots l = is_among (drop l.other-index l.other-items) l.slot ≡ is_among l.slots l.slot
