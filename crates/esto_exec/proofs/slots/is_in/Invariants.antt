use Rattle.std.proofs.Common.{◌≡◌, drop}
use Rattle.esto_exec.specs.Turns.{is_in}
use Rattle.esto_exec.proofs.slots.is_in.Given as goal

abbrev pub invariant-numbers : goal.invariant-numbers
invariant-numbers l = is_in (drop l.other-index l.other-items) l.number ≡ is_in l.numbers l.number
