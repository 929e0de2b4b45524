use Rattle.std.proofs.Common.{◌≡◌, [], replicate}
use Rattle.esto_columns.proofs.table.Table.new.Given as goal

abbrev pub invariant-columns : goal.invariant-columns
invariant-columns l = l.columns.items ≡ replicate l._column []
