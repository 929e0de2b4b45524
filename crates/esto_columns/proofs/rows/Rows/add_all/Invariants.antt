use Rattle.std.proofs.Common.{◌≡◌, ◌++◌, take}
use Rattle.esto_columns.proofs.rows.Rows.add_all.Given as goal

abbrev pub invariant-rows : goal.invariant-rows
invariant-rows l = l.self ≡ record { arity = l.initial.self.arity; rows = l.initial.self.rows ++ take l.at l.rows.rows }
