use Rattle.esto_stores.specs.TableText.{Writes, written}
use Rattle.esto_stores.proofs.TableTextLemmas.{HasPut}
use Rattle.esto_stores.proofs.table_text.put_rows.Given as goal

abbrev pub invariant-rows : goal.invariant-rows
invariant-rows l = Writes l.writer × HasPut l.columns l.row-items l.row-index (written l.writer)
