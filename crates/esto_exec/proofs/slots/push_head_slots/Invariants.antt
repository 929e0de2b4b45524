use Rattle.std.proofs.Common.{◌≡◌, ◌++◌, drop}
use Rattle.esto_exec.specs.Turns.{head_slots}
use Rattle.esto_exec.proofs.slots.push_head_slots.Given as goal

abbrev pub invariant-sources : goal.invariant-sources
invariant-sources l = l.slots ++ head_slots l.arities (drop l.source-index l.source-items) ≡ l.initial.slots ++ head_slots l.arities l.head
