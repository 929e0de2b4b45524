use Rattle.std.proofs.Common.{take}
use Rattle.esto_columns.specs.Indexed.{IsIndexOf}
use Rattle.esto_columns.proofs.finding.with_own_keys.Given as goal

abbrev pub invariant-rows : goal.invariant-rows
invariant-rows l = IsIndexOf l.index (take l.at l.rows.rows)
