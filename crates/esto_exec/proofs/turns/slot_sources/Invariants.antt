use Rattle.std.proofs.Common.{◌≡◌, map, take}
use Rattle.esto_exec.specs.Turns.{source_in}
use Rattle.esto_exec.specs.declared.slots.Side.TheVariants.{Held}
use Rattle.esto_exec.proofs.turns.slot_sources.Given as goal

abbrev pub invariant-slots : goal.invariant-slots
invariant-slots l = l.sources ≡ map (λ slot. source_in l.places (Held slot)) (take l.slot-index l.slot-items)
