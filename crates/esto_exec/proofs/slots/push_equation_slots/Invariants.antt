use Rattle.std.proofs.Common.{◌≡◌, ◌++◌, drop}
use Rattle.esto_exec.specs.Turns.{equation_slots}
use Rattle.esto_exec.proofs.slots.push_equation_slots.Given as goal

abbrev pub invariant-equations : goal.invariant-equations
invariant-equations l = l.slots ++ equation_slots l.done (drop l.equation-index l.equation-items) ≡ l.initial.slots ++ equation_slots l.done l.equations
