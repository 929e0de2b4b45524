use Rattle.esto_stores.proofs.RowLemmas.{cell_put, cell_error}
use Rattle.esto_stores.proofs.cells.push_cell.Goals as goal

pub returns-in-Ok-push : goal.returns-in-Ok-push
returns-in-Ok-push c = cell_put _ _ _ _ c.in-Ok.ensures c.in-Ok-push.ensures.ok

pub returns-in-Err : goal.returns-in-Err
returns-in-Err c = cell_error c.args.row.now c.args.row.now _ _ c.in-Err.ensures
