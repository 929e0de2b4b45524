use Rattle.std.proofs.Common.{◌≡◌, ◌∙◌, ap}
use Rattle.csv.specs.Reading.{strip_bom}
use Rattle.csv.specs.declared.parser.State.TheVariants as st
use Rattle.esto_stores.specs.Left.{left_of, records_at}
use Rattle.esto_stores.specs.Table.{records_of, table_fault, table_rows}
use Rattle.esto_stores.proofs.TableLemmas.{nothing_stripped}
use Rattle.esto_stores.proofs.coded_table.code_table.Goals as goal

pub returns-clause-rows : goal.returns-clause-rows
unfolding table_rows table_fault
returns-clause-rows c =
    let stripped : left_of c.open_reader-reader.result ≡ records_of c.args.bytes.now =
    c.open_reader-reader.ensures.left
    ∙ ap (λ bytes. records_at st.StartRecord (strip_bom bytes)) c.drop_marks.ensures
    ∙ ap (records_at st.StartRecord) (nothing_stripped c.args.bytes.now) in
    rw (stripped, c.items.ensures) at c.code_records.ensures.rows
