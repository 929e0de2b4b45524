use Rattle.std.proofs.Common.{map, take}
use Rattle.esto_columns.specs.Indexed.{IsIndexOf, key_at}
use Rattle.esto_columns.proofs.rows.with_keys.Given as goal

abbrev pub invariant-rows : goal.invariant-rows
invariant-rows l = IsIndexOf l.index (map (key_at l.columns) (take l.at l.table.rows))
