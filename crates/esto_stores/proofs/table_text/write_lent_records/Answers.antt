use Rattle.esto_stores.proofs.TableTextLemmas.{lent_goes}
use Rattle.esto_stores.proofs.table_text.write_lent_records.Goals as goal

pub rows-preserved : goal.rows-preserved
rows-preserved c = (
  c.in_ok-put_cells.ensures.writes,
  lent_goes c.args.columns.now c.args.rows.now c.rows.row-index _ _ _ c.rows.invariant.1 c.rows-test.true c.in_ok-put_cells.ensures.text,
)
