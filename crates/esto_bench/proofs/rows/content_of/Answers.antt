use Rattle.std.proofs.Common.{◌≡◌, ◌≢◌, ◌∙◌, List, length, All, AllPairs, ap, sym, subst}
use Rattle.std.proofs.lemmas.Result.{IfOk-weaker}
use Rattle.esto_stores.specs.Rows.{Row}
use Rattle.esto_stores.specs.Table.{table_fault, table_rows}
use Rattle.esto_stores.specs.TableText.{table_text}
use Rattle.esto_bench.specs.Case.{made_rows}
use Rattle.esto_bench.proofs.CatalogueLemmas.{columns_apart}
use Rattle.esto_bench.proofs.RunLemmas.{rows_wide}
use Rattle.esto_bench.proofs.rows.content_of.Goals as goal

pub write_table-requires-clause-distinct : goal.write_table-requires-clause-distinct
write_table-requires-clause-distinct c = subst (AllPairs ◌≢◌) (sym c.in_ok-columns.ensures) columns_apart

pub write_table-requires-clause-lengths : goal.write_table-requires-clause-lengths
write_table-requires-clause-lengths c =
    subst (λ (it : List Row). All (λ (row : Row). length row ≡ length c.in_ok-columns.columns) it) (sym c.in_ok-rows.ensures)
    (subst (λ (it : Row). All (λ (row : Row). length row ≡ length it) (made_rows c.args.relation)) (sym c.in_ok-columns.ensures) (rows_wide c.args.relation))

pub returns-clause-text : goal.returns-clause-text
returns-clause-text c = IfOk-weaker c.write_table.result _ _
    (λ text is. is ∙ (λ i. table_text (c.in_ok-columns.ensures i) (c.in_ok-rows.ensures i))) c.write_table.ensures.text

pub returns-clause-rows : goal.returns-clause-rows
returns-clause-rows c = IfOk-weaker c.write_table.result _ _
    (λ text rows. ap (λ (it : Row). table_rows it text) (sym c.in_ok-columns.ensures) ∙ rows ∙ c.in_ok-rows.ensures) c.write_table.ensures.rows

pub returns-clause-fault : goal.returns-clause-fault
returns-clause-fault c = IfOk-weaker c.write_table.result _ _
    (λ text fault. ap (λ (it : Row). table_fault it text) (sym c.in_ok-columns.ensures) ∙ fault) c.write_table.ensures.fault
