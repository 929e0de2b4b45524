use Rattle.std.proofs.Common.{refl}
use Rattle.esto_stores.specs.Table.{table_fault, table_rows}
use Rattle.esto_data.proofs.CodedRowLemmas.{coded_by}
use Rattle.esto_data.proofs.CodedViewLemmas.{file_added}
use Rattle.esto_data.proofs.coded_store.code_table.Goals as goal

pub returns-clause-rows : goal.returns-clause-rows
returns-clause-rows c =
    file_added (table_rows c.args.columns.now c.args.bytes.now) (table_fault c.args.columns.now c.args.bytes.now) c.args.coded.now.facts.texts
    c.code_table.new.self.texts c.args.rows.now c.push.new.self c.in_ok-own.own c.in_ok-own.ensures.rows.0 c.code_table.ensures.grown
    c.in_ok-own.ensures.rows.2 c.in_ok-push.ensures.ok

pub returns-in_err-own-clause-kept : goal.returns-in_err-own-clause-kept
returns-in_err-own-clause-kept c = coded_by c.args.coded.now _ c.code_table.ensures.facts c.code_table.ensures.ordered refl

pub returns-in_err-push-clause-kept : goal.returns-in_err-push-clause-kept
returns-in_err-push-clause-kept c = coded_by c.args.coded.now _ c.code_table.ensures.facts c.code_table.ensures.ordered refl

pub returns-clause-kept : goal.returns-clause-kept
returns-clause-kept c = coded_by c.args.coded.now _ c.code_table.ensures.facts c.code_table.ensures.ordered refl
