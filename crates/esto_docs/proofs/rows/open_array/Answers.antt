use Rattle.std.proofs.Common.{sym, subst, List}
use Rattle.serde_json.specs.View.{items_view}
use Rattle.esto_docmodel.specs.Shapes.{entries_of}
use Rattle.esto_docmodel.specs.declared.tree.Tree.{Tree}
use Rattle.esto_docs.specs.Files.{array_fault, json_of, trees_of_array}
use Rattle.esto_docs.specs.Rows.{GivesRows, IsRowOf}
use Rattle.esto_docs.specs.Trees.{trees_of}
use Rattle.esto_docs.proofs.FileLemmas.{array_found}
use Rattle.esto_docs.proofs.RowLemmas.{HasRows, wanted}
use Rattle.esto_docs.proofs.rows.open_array.Goals as goal

pub returns : goal.returns
returns c =
    let es = entries_of c.args.pattern.now.entries in
    let value = json_of c.args.bytes.now in
    let items = items_view c.in_ok-items.items.items in
    let found = array_found c.args.bytes.now items c.in_ok-items.ensures in
    wanted c.open_items.result c.or_file_error.result _ (HasRows c.args.columns es (trees_of items))
    (GivesRows (IsRowOf c.args.columns es (trees_of_array value)) (array_fault value)) c.or_file_error.ensures c.open_items.ensures
    (λ rows has. (found.0, subst (λ (ts : List Tree). HasRows c.args.columns es ts rows) (sym found.1) has)) tt
