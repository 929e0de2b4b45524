use Rattle.std.proofs.Common.{◌≡◌, drop}
use Rattle.esto_exec.specs.Slots.{side_from}
use Rattle.esto_exec.proofs.slots.side_at.Given as goal

abbrev pub invariant-gets : goal.invariant-gets
invariant-gets l = side_from l.number (drop l.number l.arities) l.column ≡ side_from 0 l.arities l.place
