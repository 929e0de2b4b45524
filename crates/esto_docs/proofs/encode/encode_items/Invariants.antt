use Rattle.std.proofs.Common.{take}
use Rattle.serde_json.specs.View.{items_view}
use Rattle.esto_docmodel.specs.Putting.{PutsDocuments}
use Rattle.esto_docs.specs.Trees.{trees_of}
use Rattle.esto_docs.proofs.encode.encode_items.Given as goal

-- the facts of the values so far are put
abbrev pub invariant-items : goal.invariant-items
invariant-items g l =
    PutsDocuments g.S.FactSink.Holds g.S.FactSink.arities l.relations (trees_of (items_view (take l.item-index l.item-items))) l.first l.next l.initial.sink
    l.sink
