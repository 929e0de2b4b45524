use Rattle.std.proofs.Common.{take}
use Rattle.esto_steps.specs.Indexed.{FindsRows}
use Rattle.esto_steps.proofs.index.index_of.Given as goal

abbrev pub invariant-rows : goal.invariant-rows
invariant-rows l = FindsRows (take l.at l.rows.rows) l.columns l.index
