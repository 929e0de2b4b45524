use Rattle.std.proofs.Common.{◌∙◌, ap}
use Rattle.std.proofs.lemmas.Result.{IfOk-weaker}
use Rattle.esto_stores.specs.Table.{table_rows, table_fault}
use Rattle.esto_stores.proofs.TableTextLemmas.{table_rows_read, table_fault_read, all_ok}
use Rattle.esto_stores.proofs.table_text.write_table.Goals as goal

pub returns-clause-rows : goal.returns-clause-rows
returns-clause-rows c =
    IfOk-weaker c.put_rows.result _ _
    (λ text is. ap (table_rows c.args.columns.now) is
    ∙ table_rows_read c.args.columns.now c.args.rows.now c.requires.some c.requires.distinct c.requires.plain c.requires.lengths)
    c.put_rows.ensures.text

pub returns-clause-fault : goal.returns-clause-fault
returns-clause-fault c =
    all_ok c.put_rows.result _ _ _ _
    (λ text is columns rows. ap (table_fault c.args.columns.now) is
    ∙ table_fault_read c.args.columns.now c.args.rows.now c.requires.some c.requires.distinct c.requires.plain c.requires.lengths columns rows)
    c.put_rows.ensures.text c.put_rows.ensures.columns c.put_rows.ensures.rows
