use Rattle.std.proofs.Common.{◌≡◌, take}
use Rattle.esto_columns.proofs.table.copied.Given as goal

abbrev pub invariant-columns : goal.invariant-columns
invariant-columns l = l.copies.items ≡ take l.column-index l.columns
