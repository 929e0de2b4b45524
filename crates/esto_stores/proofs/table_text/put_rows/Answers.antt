use Rattle.esto_stores.proofs.TableTextLemmas.{put_end, put_goes, put_start}
use Rattle.esto_stores.specs.Rows.{are_texts}
use Rattle.esto_stores.specs.TableText.{table_text, written}
use Rattle.std.proofs.lemmas.List.{get_or_default}
use Rattle.std.proofs.lemmas.Result.{IfOk-weaker}
use Rattle.std.proofs.Common.{[], ◌∙◌, ap, sym}
use Rattle.std.specs.List.{list_all}
use Rattle.esto_stores.proofs.table_text.put_rows.Goals as goal

pub rows-init : goal.rows-init
rows-init c = (
  c.in_ok-writer.ensures.writes,
  put_start c.args.columns.now c.items-row-items.result.now (written c.in_ok-writer.writer) c.in_ok-writer.ensures.text c.in_ok-writer.ensures.columns,
)

pub rows-preserved : goal.rows-preserved
rows-preserved c = (
  c.in_ok-put_row.ensures.writes,
  put_goes c.args.columns.now c.items-row-items.result.now c.rows.row-index (written c.rows.writer) (written c.put_row.new.writer) c.items.result.now
      c.rows.invariant.1 c.rows-test.true
      (c.items.ensures ∙ c.row-item.is ∙ get_or_default c.items-row-items.result.now c.rows.row-index c.row-item.result [] c.rows-test.true)
      c.in_ok-put_row.ensures.text c.in_ok-put_row.ensures.texts,
)

pub returns-clause-text : goal.returns-clause-text
returns-clause-text c =
    let all = put_end c.args.columns.now c.items-row-items.result.now c.rows.row-index (written c.rows.writer) c.rows.invariant.1 c.rows-test.false in
    IfOk-weaker c.ended.result _ _ (λ text is. is ∙ all.0 ∙ ap (table_text c.args.columns.now) c.items-row-items.ensures) c.ended.ensures

pub returns-clause-columns : goal.returns-clause-columns
returns-clause-columns c =
    let all = put_end c.args.columns.now c.items-row-items.result.now c.rows.row-index (written c.rows.writer) c.rows.invariant.1 c.rows-test.false in
    IfOk-weaker c.ended.result _ _ (λ text is. all.1) c.ended.ensures

pub returns-clause-rows : goal.returns-clause-rows
returns-clause-rows c =
    let all = put_end c.args.columns.now c.items-row-items.result.now c.rows.row-index (written c.rows.writer) c.rows.invariant.1 c.rows-test.false in
    IfOk-weaker c.ended.result _ _ (λ text is. sym (ap (list_all are_texts) c.items-row-items.ensures) ∙ all.2) c.ended.ensures
