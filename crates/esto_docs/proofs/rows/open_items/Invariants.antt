use Rattle.std.proofs.Common.{take}
use Rattle.serde_json.specs.View.{items_view}
use Rattle.esto_docmodel.specs.Shapes.{entries_of}
use Rattle.esto_docs.specs.Trees.{trees_of}
use Rattle.esto_docs.proofs.RowLemmas.{HasRows}
use Rattle.esto_docs.proofs.rows.open_items.Given as goal

abbrev pub invariant-items : goal.invariant-items
invariant-items l = HasRows l.columns (entries_of l.pattern.entries) (trees_of (items_view (take l.item-index l.item-items))) l.rows
