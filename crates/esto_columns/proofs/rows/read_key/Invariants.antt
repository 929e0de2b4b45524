use Rattle.std.proofs.Common.{◌≡◌, take}
use Rattle.esto_columns.specs.Indexed.{key_at}
use Rattle.esto_columns.proofs.rows.read_key.Given as goal

abbrev pub invariant-columns : goal.invariant-columns
invariant-columns l = l.key ≡ key_at (take l.column-index l.columns) l.row
