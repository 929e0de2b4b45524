use Rattle.std.proofs.Common.{map, take, drop}
use Rattle.esto_columns.specs.Indexed.{IsIndexOf}
use Rattle.esto_rows.specs.Told.{AreTold}
use Rattle.esto_rows.proofs.told.are_told_by.Given as goal

abbrev pub invariant-rows : goal.invariant-rows
invariant-rows l = IsIndexOf l.index (map (drop 1) (take l.at l.rows.rows)) × AreTold (take l.at l.rows.rows)
