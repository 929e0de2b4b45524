use Rattle.std.proofs.Common.{◌≡◌, ◌∷◌, [], ◌++◌, map, drop}
use Rattle.serde_json.specs.View.{items_view, members_view}
use Rattle.esto_docmodel.specs.Putting.{turned}
use Rattle.esto_docmodel.specs.Shapes.{shape, row, named_row, shaped_field}
use Rattle.esto_docs.specs.Trees.{trees_of, fields_of}
use Rattle.esto_docs.proofs.FactLemmas.{Turns}
use Rattle.esto_docs.proofs.facts.+put.Given as goal

-- the node stands below those above it, and the facts of the members that are left lead to those of all
abbrev pub invariant-put_members-members : goal.invariant-put_members-members
invariant-put_members-members g l =
    (l.above ≡ l.fn.above ++ l.number ∷ [])
    × Turns g.S.FactSink.Holds g.S.FactSink.arities l.relations (l.number ∷ turned l.fn.above) l.first l.next
    (named_row (map shaped_field (fields_of (members_view l.members.entries))))
    (named_row (map shaped_field (fields_of (members_view l.name-iterator)))) l.initial.sink l.sink

-- likewise with the items
abbrev pub invariant-put_items-items : goal.invariant-put_items-items
invariant-put_items-items g l =
    (l.above ≡ l.fn.above ++ l.number ∷ [])
    × Turns g.S.FactSink.Holds g.S.FactSink.arities l.relations (l.number ∷ turned l.fn.above) l.first l.next
    (row (map shape (trees_of (items_view l.items)))) (row (map shape (trees_of (items_view (drop l.item-index l.items))))) l.initial.sink l.sink
