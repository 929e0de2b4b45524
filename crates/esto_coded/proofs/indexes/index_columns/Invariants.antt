use Rattle.std.proofs.Common.{◌≡◌}
use Rattle.esto_coded.proofs.indexes.index_columns.Given as goal

abbrev pub invariant-columns : goal.invariant-columns
invariant-columns l = l.rows ≡ l.initial.rows
