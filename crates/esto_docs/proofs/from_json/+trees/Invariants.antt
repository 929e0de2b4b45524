use Rattle.std.proofs.Common.{◌≡◌, ◌++◌, List, take}
use Rattle.serde_json.specs.View.{items_view, members_view}
use Rattle.serde_json.proofs.Views.{Entry}
use Rattle.esto_docs.specs.Trees.{trees_of, fields_of}
use Rattle.esto_docs.proofs.from_json.+trees.Given as goal

abbrev pub invariant-trees_of-items : goal.invariant-trees_of-items
invariant-trees_of-items l = l.trees ≡ trees_of (items_view (take l.item-index l.item-items))

abbrev pub invariant-fields_of-members : goal.invariant-fields_of-members
invariant-fields_of-members l =
    (gone : List Entry) × (l.members.entries ≡ gone ++ l.name-iterator) × (l.fields ≡ fields_of (members_view gone))
