use Rattle.std.proofs.Common.{◌≡◌, map, take, drop}
use Rattle.esto_stores.specs.Rows.{are_texts}
use Rattle.esto_stores.proofs.keys.text_cells.Given as goal

abbrev pub invariant-cells : goal.invariant-cells
invariant-cells l =
    (l.row ≡ map (λ cell. cell.now) (take l.cell-index l.cells))
    × (are_texts (map (λ cell. cell.now) l.cells) ≡ are_texts (map (λ cell. cell.now) (drop l.cell-index l.cells)))
