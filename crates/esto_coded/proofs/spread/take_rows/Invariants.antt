use Rattle.std.proofs.Common.{take}
use Rattle.esto_coded.specs.Spread.{TakesPassing}
use Rattle.esto_coded.proofs.spread.take_rows.Given as goal

-- the codes of those of the rows so far that pass have come
abbrev pub invariant-rows : goal.invariant-rows
invariant-rows l = TakesPassing l.columns (take l.at l.rows.rows) l.initial.set l.set
