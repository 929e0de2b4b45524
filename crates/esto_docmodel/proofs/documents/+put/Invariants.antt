use Rattle.std.proofs.Common.{◌≡◌, ◌+◌, ◌∷◌, map, drop}
use Rattle.esto_docmodel.specs.Encodings.{facts_from, kept, size}
use Rattle.esto_docmodel.specs.Putting.{turned}
use Rattle.esto_docmodel.specs.Rising.{AreInside}
use Rattle.esto_docmodel.specs.Shapes.{shape, row, named_row, shaped_field}
use Rattle.esto_docmodel.proofs.GainLemmas.{Leads}
use Rattle.esto_docmodel.proofs.documents.+put.Given as goal

-- the facts of the fields that are left lead to all of them, and so it is with the numbers and the names
abbrev pub invariant-put_fields-fields : goal.invariant-put_fields-fields
invariant-put_fields-fields g l =
    Leads g.S.FactSink.Holds g.S.FactSink.arities
    (kept l.relations (facts_from (l.number ∷ turned l.above) l.next (named_row (map shaped_field (drop l.field-index l.field-items)))))
    (kept l.relations (facts_from (l.number ∷ turned l.above) l.first (named_row (map shaped_field l.field-items)))) l.initial.sink l.sink
    × (l.next + size (named_row (map shaped_field (drop l.field-index l.field-items))) ≡ l.first + size (named_row (map shaped_field l.field-items)))
    × (AreInside (named_row (map shaped_field (drop l.field-index l.field-items))) → AreInside (named_row (map shaped_field l.field-items)))

-- likewise with the items
abbrev pub invariant-put_items-items : goal.invariant-put_items-items
invariant-put_items-items g l =
    Leads g.S.FactSink.Holds g.S.FactSink.arities
    (kept l.relations (facts_from (l.number ∷ turned l.above) l.next (row (map shape (drop l.item-index l.items)))))
    (kept l.relations (facts_from (l.number ∷ turned l.above) l.first (row (map shape l.items)))) l.initial.sink l.sink
    × (l.next + size (row (map shape (drop l.item-index l.items))) ≡ l.first + size (row (map shape l.items)))
    × (AreInside (row (map shape (drop l.item-index l.items))) → AreInside (row (map shape l.items)))
