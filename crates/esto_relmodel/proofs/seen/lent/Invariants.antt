use Rattle.std.proofs.Common.{◌≡◌, ◌++◌, map, drop}
use Rattle.esto_relmodel.proofs.seen.lent.Given as goal

-- the lent cells, with those that are left, are all of them
abbrev pub invariant-cells : goal.invariant-cells
invariant-cells l = map (λ cell. cell.now) l.row.items ++ drop l.cell-index l.cells ≡ l.cells
