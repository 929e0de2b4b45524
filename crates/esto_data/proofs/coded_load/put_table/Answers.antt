use Rattle.std.proofs.Common.{◌∙◌, sym}
use Rattle.esto_data.proofs.CodedLoadLemmas.{table_left, table_put}
use Rattle.esto_data.proofs.coded_load.put_table.Goals as goal

pub returns-then-has : goal.returns-then-has
returns-then-has c =
    table_put c.args.dataset.now c.args.wanted.now c.args.bytes.now c.args.coded.now _ (sym c.has.ensures ∙ c.if-has.true) c.put_table_rows.result
    c.put_table_rows.ensures

pub returns : goal.returns
returns c =
    table_left c.args.dataset.now c.args.wanted.now c.args.bytes.now c.args.coded.now (sym c.has.ensures ∙ c.if-has.false)
    c.in_ok-open_table.ensures.0
