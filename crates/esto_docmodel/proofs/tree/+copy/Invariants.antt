use Rattle.std.proofs.Common.{◌≡◌, take}
use Rattle.esto_docmodel.proofs.tree.+copy.Given as goal

-- the fields so far are copied
abbrev pub invariant-copied_fields-fields : goal.invariant-copied_fields-fields
invariant-copied_fields-fields l = l.own ≡ take l.field-index l.field-items

-- the items so far are copied
abbrev pub invariant-copied_items-items : goal.invariant-copied_items-items
invariant-copied_items-items l = l.own ≡ take l.item-index l.items
