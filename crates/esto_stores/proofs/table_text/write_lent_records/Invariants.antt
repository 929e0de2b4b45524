use Rattle.std.proofs.Common.{◌≡◌, take}
use Rattle.esto_stores.specs.TableText.{Writes, written, table_text}
use Rattle.esto_stores.proofs.TableTextLemmas.{lent_rows}
use Rattle.esto_stores.proofs.table_text.write_lent_records.Given as goal

abbrev pub invariant-rows : goal.invariant-rows
invariant-rows l = Writes l.writer × (written l.writer ≡ table_text l.columns (lent_rows (take l.row-index l.rows)))
