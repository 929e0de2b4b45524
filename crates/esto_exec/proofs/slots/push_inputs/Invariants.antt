use Rattle.std.proofs.Common.{◌≡◌, ◌++◌, flat_map, drop}
use Rattle.esto_exec.specs.Slots.{side_of}
use Rattle.esto_exec.specs.Turns.{side_slots}
use Rattle.esto_exec.proofs.slots.push_inputs.Given as goal

abbrev pub invariant-links : goal.invariant-links
invariant-links l = l.slots ++ flat_map (λ link. side_slots (side_of l.arities link.source)) (drop l.link-index l.link-items)
    ≡ l.initial.slots ++ flat_map (λ link. side_slots (side_of l.arities link.source)) l.links
