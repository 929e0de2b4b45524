use Rattle.std.proofs.Common.{take}
use Rattle.esto_rows.specs.Wanted.{HaveWanted}
use Rattle.esto_rows.proofs.wanted.put_wanted.Given as goal

-- the set has the codes of the rows so far that are wanted
abbrev pub invariant-rows : goal.invariant-rows
invariant-rows l = HaveWanted l.wanted (take l.at l.rows.rows) l.set
