use Rattle.std.proofs.Common.{◌≡◌, ◌++◌, take}
use Rattle.esto_exec.specs.Slots.{equations_by}
use Rattle.esto_exec.proofs.slots.push_equations.Given as goal

abbrev pub invariant-links : goal.invariant-links
invariant-links l = l.equations ≡ l.initial.equations ++ equations_by l.arities l.number (take l.link-index l.link-items)
