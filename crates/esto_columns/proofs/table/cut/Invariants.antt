use Rattle.std.proofs.Common.{◌≡◌, ◌++◌, map, take, drop}
use Rattle.esto_columns.proofs.table.cut.Given as goal

abbrev pub invariant-columns : goal.invariant-columns
invariant-columns l = l.column-items ≡ map (λ column. take l.count column) (take l.column-index l.initial.column-items)
    ++ drop l.column-index l.initial.column-items
