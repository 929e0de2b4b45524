use Rattle.std.proofs.Common.{◌≡◌, All, length, take}
use Rattle.esto_part_cases.proofs.models.have_cells.Given as goal

-- the rows so far have that many cells
abbrev pub invariant-rows : goal.invariant-rows
invariant-rows l = All (λ row. length row ≡ l.cells) (take l.row-index l.rows)
