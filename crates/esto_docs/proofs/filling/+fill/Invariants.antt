use Rattle.std.proofs.Common.{◌≡◌, ◌+◌, ◌*◌, ◌∷◌, [], length, map, take}
use Rattle.serde_json.specs.View.{view}
use Rattle.esto_docmodel.specs.Shapes.{entries_of}
use Rattle.esto_docs.specs.Filling.{value_node, cells_of, tasks_of, with_path, FillsSome}
use Rattle.esto_docs.proofs.FillingLemmas.{end_weight, weight_in}
use Rattle.esto_docs.proofs.filling.+fill.Given as goal

abbrev pub decreases-fill : goal.decreases-fill
decreases-fill l = 2 * weight_in (tasks_of l.todo)

abbrev pub decreases-follow : goal.decreases-follow
decreases-follow l = 2 * (end_weight (entries_of (l.entry.now ∷ [])) + length l.path.now + weight_in (tasks_of l.todo)) + 1

abbrev pub decreases-follow_items : goal.decreases-follow_items
decreases-follow_items l = 2 * (end_weight (entries_of (l.entry.now ∷ [])) + length l.path.now + weight_in (tasks_of l.todo)) + 2

abbrev pub decreases-reach : goal.decreases-reach
decreases-reach l = 2 * (end_weight (entries_of (l.entry.now ∷ [])) + weight_in (tasks_of l.todo))

-- the rows that complete the cells by the items so far are put
abbrev pub invariant-follow_items-items : goal.invariant-follow_items-items
invariant-follow_items-items l =
    (length l.cells ≡ length l.fn.cells)
    × FillsSome (length l.fn.cells) (with_path l.path (entries_of (l.entry ∷ []))) (map (λ item. value_node (view item)) (take l.item-index l.items))
    (tasks_of l.todo) (cells_of l.fn.cells) (cells_of l.cells) l.fn.rows l.rows
