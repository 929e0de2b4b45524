-- The code's trees as trees of the grammar.
use Rattle.std.specs.Prelude.{List, [], ◌∷◌, map}
use Rattle.esto_text.specs.declared.tree.EntrySyntax.{EntrySyntax}
use Rattle.esto_text.specs.declared.tree.EntrySyntax.TheOpen.{EntrySyntax-F}
use Rattle.esto_text.specs.declared.tree.EntrySyntax.TheFolds.{fold-EntrySyntax}
use Rattle.esto_text.specs.declared.tree.ItemSyntax.{ItemSyntax}
use Rattle.esto_text.specs.declared.tree.ItemSyntax.TheVariants as item
use Rattle.esto_text.specs.declared.tree.QuerySyntax.{QuerySyntax}
use Rattle.esto_text.specs.declared.tree.HeadSyntax.{HeadSyntax}
use Rattle.esto_text.specs.declared.tree.HeadSyntax.TheVariants as head
use Rattle.esto_text.specs.declared.tree.ConstraintSyntax.{ConstraintSyntax}
use Rattle.esto_text.specs.Trees.{EntryTree, Value, Nested, EntryTrees, NoEntry, AndEntry, ItemTree, Atom, Part, Pattern, QueryTree, HeadTree, Items, Equality}
use Rattle.esto_text.specs.Trees.{Never, ConstraintTree}

-- A list of entries as one tree.
abbrev pub group_of : List EntryTree → EntryTrees
group_of [] = NoEntry
group_of (entry ∷ entries) = AndEntry entry (group_of entries)

-- One level of an entry.
abbrev pub entry_step : EntrySyntax-F EntryTree → EntryTree
entry_step (EntrySyntax-F.Value path term) = Value path term
entry_step (EntrySyntax-F.Group path entries) = Nested path (group_of entries)

-- The tree of an entry.
abbrev pub entry_of : EntrySyntax → EntryTree
entry_of = fold-EntrySyntax EntryTree entry_step

-- The tree of a list of entries.
abbrev pub entries_of : List EntrySyntax → EntryTrees
entries_of entries = group_of (map entry_of entries)

-- The tree of an item.
abbrev pub item_of : ItemSyntax → ItemTree
item_of (item.Atom name terms) = Atom name terms
item_of (item.Part name part terms) = Part name part terms
item_of (item.Pattern name entries) = Pattern name (entries_of entries)

-- The tree of a query or a view.
abbrev pub tree_of : QuerySyntax → QueryTree
tree_of query = record { name = query.name; variables = query.variables; items = map item_of query.items }

-- The tree of a constraint's head.
abbrev pub head_of : HeadSyntax → HeadTree
head_of (head.Items items) = Items (map item_of items)
head_of (head.Equality left right) = Equality left right
head_of head.Never = Never

-- The tree of a constraint.
abbrev pub constraint_of : ConstraintSyntax → ConstraintTree
constraint_of constraint = record { body = map item_of constraint.body; head = head_of constraint.head }
