use Rattle.std.proofs.Common.{◌≡◌, ◌++◌, drop}
use Rattle.esto_exec.specs.Slots.{equations_from}
use Rattle.esto_exec.proofs.slots.equations_of.Given as goal

abbrev pub invariant-gets : goal.invariant-gets
invariant-gets l = l.equations ++ equations_from l.arities l.number (drop l.number l.get-items) ≡ equations_from l.arities 0 l.gets
