use Rattle.std.proofs.Common.{◌≡◌, ◌++◌, drop}
use Rattle.esto_exec.specs.Turns.{input_slots}
use Rattle.esto_exec.proofs.slots.push_input_slots.Given as goal

abbrev pub invariant-gets : goal.invariant-gets
invariant-gets l = l.slots ++ input_slots l.arities l.done l.number (drop l.number l.get-items) ≡ l.initial.slots ++ input_slots l.arities l.done 0 l.gets
