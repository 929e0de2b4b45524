use Rattle.esto_data.proofs.RowLemmas.{rows_added, rows_refused}
use Rattle.esto_data.proofs.opened.code_content.Goals as goal

pub returns-in-Ok-clause-answer : goal.returns-in-Ok-clause-answer
returns-in-Ok-clause-answer c =
    (rows_added (record { definition = c.args.fragment.now; store = c.args.store.now }) c.args.bytes.now c.bytes.result.now c.bytes.ensures
    c.args.coded.now.facts.texts c.code_store.new.coded.facts.texts c.args.rows.now c.code_store.new.rows c.in-Ok.ensures.rows).0

pub returns-in-Ok-clause-rows : goal.returns-in-Ok-clause-rows
returns-in-Ok-clause-rows c =
    (rows_added (record { definition = c.args.fragment.now; store = c.args.store.now }) c.args.bytes.now c.bytes.result.now c.bytes.ensures
    c.args.coded.now.facts.texts c.code_store.new.coded.facts.texts c.args.rows.now c.code_store.new.rows c.in-Ok.ensures.rows).1

pub returns-in-Ok-clause-stays : goal.returns-in-Ok-clause-stays
returns-in-Ok-clause-stays c = record { kept = c.code_store.ensures.kept; grown = c.code_store.ensures.grown }

pub returns-in_ok-name-in-Err-Fault-clause-answer : goal.returns-in_ok-name-in-Err-Fault-clause-answer
returns-in_ok-name-in-Err-Fault-clause-answer c =
    rows_refused (record { definition = c.args.fragment.now; store = c.args.store.now }) c.args.bytes.now c.bytes.result.now c.bytes.ensures
    c.args.coded.now.facts.texts c.code_store.new.coded.facts.texts c.args.rows.now c.code_store.new.rows c.in-Err-Fault.field-0 c.in-Err-Fault.fault
    c.in-Err-Fault.field-0-is c.in-Err-Fault.ensures.rows c.in_ok-name-in-Err-Fault.name c.in_ok-name-in-Err-Fault.ensures
