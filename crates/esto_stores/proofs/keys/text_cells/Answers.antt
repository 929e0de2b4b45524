use Rattle.std.proofs.Common.{◌∙◌, refl}
use Rattle.std.proofs.lemmas.Result.{err_from_is_err_and}
use Rattle.esto_stores.proofs.RowLemmas.{lent, lent_go, lent_stop, lent_more, row_error}
use Rattle.esto_stores.proofs.keys.text_cells.Goals as goal

pub cells-preserved : goal.cells-preserved
cells-preserved c = (
  lent_more c.args.cells.now c.cells.cell-index _ _ c.cells.row _ c.cells-test.true refl c.cells.invariant.0 c.in_ok-push_cell.ensures.0,
  c.cells.invariant.1 ∙ lent_go c.args.cells.now c.cells.cell-index _ c.cells-test.true c.in_ok-push_cell.ensures.1,
)

pub returns-in_err-push_cell : goal.returns-in_err-push_cell
returns-in_err-push_cell c =
    let p = err_from_is_err_and c.from_residual.result c.from_residual.ensures.1 in
    rw (p.1, p.2) (row_error (lent c.args.cells.now) c.cells.row c.push_cell.new.row _ _ c.in_err-push_cell.ensures
    (λ n. c.cells.invariant.1 ∙ lent_stop c.args.cells.now c.cells.cell-index _ c.cells-test.true n))
