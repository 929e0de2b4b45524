use Rattle.esto_docs.proofs.CodedStoreLemmas.{table_codes, keys_codes}
use Rattle.esto_docs.proofs.coded_store.code_store.Goals as goal

pub returns-in-Table-clause-rows : goal.returns-in-Table-clause-rows
returns-in-Table-clause-rows c = table_codes c.args.shape.now c.args.fragment.now c.args.bytes.now c.code_table.new.codes c.code_table.result
    c.in-Table.names c.in-Table.is c.requires c.code_table.ensures.rows

pub returns-in-Keys-clause-rows : goal.returns-in-Keys-clause-rows
returns-in-Keys-clause-rows c = keys_codes c.args.shape.now c.args.fragment.now c.args.bytes.now c.code_keys.new.codes c.code_keys.result
    c.len.result c.in-Keys.is c.len.ensures c.code_keys.ensures.rows
