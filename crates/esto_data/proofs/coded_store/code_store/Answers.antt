use Rattle.std.proofs.Common.{ℕ, Contains, length, subst, sym}
use Rattle.esto_docmodel.specs.declared.file.Shape.{Shape}
use Rattle.esto_docs.specs.Stores.{IsRowIn, first_fault_in}
use Rattle.esto_stores.specs.Keys.{key_fault, key_rows}
use Rattle.esto_data.specs.Coding.{CodesFile}
use Rattle.esto_data.proofs.coded_store.code_store.Goals as goal

pub returns-in-Table-clause-rows : goal.returns-in-Table-clause-rows
returns-in-Table-clause-rows c =
    subst (λ (it : Shape). CodesFile (IsRowIn it c.args.bytes.now) (first_fault_in it (length c.args.fragment.now.view.head) c.args.bytes.now)
    c.args.coded.now.facts.texts c.code_table.new.coded.facts.texts c.args.rows.now c.code_table.new.rows c.code_table.result) (sym c.in-Table.is)
    c.code_table.ensures.rows

pub returns-in-Keys-clause-rows : goal.returns-in-Keys-clause-rows
returns-in-Keys-clause-rows c =
    subst (λ (it : Shape). CodesFile (IsRowIn it c.args.bytes.now) (first_fault_in it (length c.args.fragment.now.view.head) c.args.bytes.now)
    c.args.coded.now.facts.texts c.code_keys.new.coded.facts.texts c.args.rows.now c.code_keys.new.rows c.code_keys.result) (sym c.in-Keys.is)
    (subst (λ (n : ℕ). CodesFile (Contains (key_rows c.args.bytes.now)) (key_fault n c.args.bytes.now)
    c.args.coded.now.facts.texts c.code_keys.new.coded.facts.texts c.args.rows.now c.code_keys.new.rows c.code_keys.result) c.len.ensures
    c.code_keys.ensures.rows)
