use Rattle.std.proofs.Common.{false, ◌+◌, ◌*◌, ◌∷◌, [], length, map, take}
use Rattle.std.specs.Prelude.{Contains}
use Rattle.serde_json.specs.View.{view}
use Rattle.esto_docmodel.specs.Forests.{Node}
use Rattle.esto_docmodel.specs.Shapes.{entries_of}
use Rattle.esto_docs.specs.Filling.{value_node, with_path, RulesOut}
use Rattle.esto_docs.proofs.FillingLemmas.{weight, end_weight}
use Rattle.esto_docs.proofs.matching.+can_match.Given as goal

abbrev pub decreases-can_match : goal.decreases-can_match
decreases-can_match l = 2 * weight (entries_of l.entries.now)

abbrev pub decreases-can_follow : goal.decreases-can_follow
decreases-can_follow l = 2 * (end_weight (entries_of (l.entry.now ∷ [])) + length l.path.now) + 1

abbrev pub decreases-can_follow_items : goal.decreases-can_follow_items
decreases-can_follow_items l = 2 * (end_weight (entries_of (l.entry.now ∷ [])) + length l.path.now) + 2

abbrev pub decreases-can_reach : goal.decreases-can_reach
decreases-can_reach l = 2 * end_weight (entries_of (l.entry.now ∷ []))

-- the items so far have no place for the entry
abbrev pub invariant-can_follow_items-items : goal.invariant-can_follow_items-items
invariant-can_follow_items-items l =
    (node : Node) → Contains (map (λ item. value_node (view item)) (take l.item-index l.items)) node
    → RulesOut false (with_path l.path (entries_of (l.entry ∷ []))) node
