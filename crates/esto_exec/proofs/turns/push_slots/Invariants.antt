use Rattle.std.proofs.Common.{◌≡◌, ◌++◌, ◌-◌}
use Rattle.esto_exec.specs.Turns.{slots_from}
use Rattle.esto_exec.proofs.turns.push_slots.Given as goal

abbrev pub invariant-columns : goal.invariant-columns
invariant-columns l = l.places ++ slots_from l.number l.column (l.arity - l.column) ≡ l.initial.places ++ slots_from l.number 0 l.arity
