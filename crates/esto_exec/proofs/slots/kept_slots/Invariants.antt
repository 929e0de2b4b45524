use Rattle.std.proofs.Common.{◌≡◌, ◌++◌, drop}
use Rattle.esto_exec.specs.Turns.{kept_slots}
use Rattle.esto_exec.proofs.slots.kept_slots.Given as goal

abbrev pub invariant-slots : goal.invariant-slots
invariant-slots l = l.kept ++ kept_slots l.needed (drop l.slot-index l.slot-items) ≡ kept_slots l.needed l.slots
