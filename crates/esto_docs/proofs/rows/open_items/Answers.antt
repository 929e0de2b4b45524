use Rattle.std.proofs.Common.{◌∙◌, List, subst, sym}
use Rattle.std.proofs.lemmas.List.{take_all}
use Rattle.serde_json.specs.View.{items_view}
use Rattle.serde_json.specs.declared.value.Value.{Value}
use Rattle.esto_docmodel.specs.Shapes.{entries_of}
use Rattle.esto_docmodel.specs.declared.tree.Tree.{Tree}
use Rattle.esto_docs.specs.Trees.{trees_of}
use Rattle.esto_docs.proofs.RowLemmas.{HasRows, rows_go}
use Rattle.esto_docs.proofs.TreeLemmas.{trees_more}
use Rattle.esto_docs.proofs.rows.open_items.Goals as goal

pub items-preserved : goal.items-preserved
items-preserved c =
    let es = entries_of c.args.pattern.now.entries in
    let more = trees_more c.deref-item-items.result.now c.items.item-index c.item-item.result _ c.items-test.true c.item-item.is in
    subst (λ (ts : List Tree). HasRows c.args.columns es ts c.put_rows.new.rows) (sym more)
    (rows_go c.args.columns es _ _ c.items.rows c.put_rows.new.rows c.items.invariant c.in_ok-put_rows.ensures)

pub returns : goal.returns
returns c =
    let es = entries_of c.args.pattern.now.entries in
    subst (λ (vs : List Value). HasRows c.args.columns es (trees_of (items_view vs)) c.items.rows)
    (take_all c.items.item-index c.deref-item-items.result.now c.items-test.false ∙ c.deref-item-items.ensures.value) c.items.invariant
