use Rattle.std.proofs.Common.{◌≡◌, ◌++◌, ℕ, List, map, take, get_or}
use Rattle.esto_columns.proofs.table.Table.push_row.Given as goal

abbrev pub invariant-columns : goal.invariant-columns
invariant-columns l = (row : List ℕ) × (row ≡ map (λ column. get_or column l.at 0) (take l.column-index l.column-items)) × (l.into ≡ l.initial.into ++ row)
