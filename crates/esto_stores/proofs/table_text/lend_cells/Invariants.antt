use Rattle.esto_stores.proofs.RowLemmas.{HasLent}
use Rattle.esto_stores.proofs.table_text.lend_cells.Given as goal

abbrev pub invariant-cells : goal.invariant-cells
invariant-cells l = HasLent l.row l.cell-index l.cells.items
