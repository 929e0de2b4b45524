use Rattle.std.proofs.Common.{◌≡◌}
use Rattle.esto_columns.specs.Columns.{pushed}
use Rattle.esto_columns.proofs.table.push_codes.Given as goal

abbrev pub invariant-codes : goal.invariant-codes
invariant-codes l = l.columns.items ≡ pushed l.at l.initial.columns.items l.row
