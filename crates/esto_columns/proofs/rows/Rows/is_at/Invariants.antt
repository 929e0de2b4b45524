use Rattle.std.proofs.Common.{◌≡◌, ◌<◌, ℕ, [], get_or}
use Rattle.esto_columns.proofs.rows.Rows.is_at.Given as goal

abbrev pub invariant-columns : goal.invariant-columns
invariant-columns l = (column : ℕ) → column < l.column → get_or (get_or l.self.rows l.place []) column 0 ≡ get_or l.row column 0
