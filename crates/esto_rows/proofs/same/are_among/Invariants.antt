use Rattle.std.proofs.Common.{take}
use Rattle.esto_rows.specs.Same.{IsPart}
use Rattle.esto_rows.proofs.same.are_among.Given as goal

abbrev pub invariant-rows : goal.invariant-rows
invariant-rows l = IsPart (take l.at l.one.rows) l.other.rows
