use Rattle.std.proofs.Common.{length, sym, subst}
use Rattle.esto_docmodel.specs.Stores.{IsShapeFor}
use Rattle.esto_docmodel.specs.declared.file.Shape.{Shape}
use Rattle.esto_docmodel.specs.Layouts.{IsLayout}
use Rattle.esto_docmodel.specs.Shapes.{entries_of}
use Rattle.esto_ports.specs.FileFaults.{Gives}
use Rattle.esto_stores.specs.Keys.{key_rows, key_fault}
use Rattle.esto_stores.specs.Table.{table_rows, table_fault}
use Rattle.esto_docs.specs.Stores.{IsRowIn, first_fault_in, GivesRows}
use Rattle.esto_docs.proofs.StoreLemmas.{gives_rows, documents_give}
use Rattle.esto_docs.proofs.store.rows_in.Goals as goal

pub returns-in-Table : goal.returns-in-Table
returns-in-Table c =
    let bytes = c.args.bytes.now in
    let names = c.in-Table.names in
    subst (λ (it : Shape). GivesRows (IsRowIn it bytes) (first_fault_in it (length c.args.fragment.now.view.head) bytes) c.open_table.result)
    (sym c.in-Table.is)
    (gives_rows (table_rows names bytes) (table_fault names bytes) c.open_table.result c.open_table.ensures)

pub open_documents-requires : goal.open_documents-requires
open_documents-requires c =
    let view = c.args.fragment.now.view in
    subst (λ n. IsLayout n (entries_of c.in-Documents.pattern.entries)) (sym c.len-columns.ensures)
    (subst (λ (it : Shape). IsShapeFor it view) c.in-Documents.is c.requires)

pub returns-in-Documents : goal.returns-in-Documents
returns-in-Documents c =
    let bytes = c.args.bytes.now in
    let view = c.args.fragment.now.view in
    let columns = c.len-columns.result in
    let layout = c.in-Documents.layout in
    let pattern = c.in-Documents.pattern in
    let fits = subst (λ n. IsLayout n (entries_of pattern.entries)) (sym c.len-columns.ensures)
    (subst (λ (it : Shape). IsShapeFor it view) c.in-Documents.is c.requires) in
    subst (λ (it : Shape). GivesRows (IsRowIn it bytes) (first_fault_in it (length view.head) bytes) c.open_documents.result) (sym c.in-Documents.is)
    (documents_give columns layout pattern bytes c.open_documents.result fits c.open_documents.ensures)

pub returns-in-Keys : goal.returns-in-Keys
returns-in-Keys c =
    let bytes = c.args.bytes.now in
    let width = length c.args.fragment.now.view.head in
    subst (λ (it : Shape). GivesRows (IsRowIn it bytes) (first_fault_in it width bytes) c.open_keys.result) (sym c.in-Keys.is)
    (gives_rows (key_rows bytes) (key_fault width bytes) c.open_keys.result
    (subst (λ n. Gives (key_rows bytes) (key_fault n bytes) c.open_keys.result) c.len-columns.ensures c.open_keys.ensures))
