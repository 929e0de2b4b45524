use Rattle.std.proofs.Common.{take}
use Rattle.esto_fill.specs.Placing.{LeastOpen}
use Rattle.esto_fill.proofs.rows.least_open.Given as goal

-- it is the least place of the rows so far
abbrev pub invariant-rows : goal.invariant-rows
invariant-rows l = LeastOpen (take l.row-index l.rows) l.least
