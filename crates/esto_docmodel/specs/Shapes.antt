-- The program's trees as nodes, and its patterns as entries.
use Rattle.std.specs.Prelude.{List, [], ◌∷◌, Some, None, map}
use Rattle.esto_docmodel.specs.Forests.{name, place, Forest, none, kid, Node, node}
use Rattle.esto_docmodel.specs.Patterns.{Entries, done, holds, group}
use Rattle.esto_docmodel.specs.declared.field.FieldOf.{FieldOf}
use Rattle.esto_docmodel.specs.declared.tree.Tree.{Tree}
use Rattle.esto_docmodel.specs.declared.tree.Tree.TheOpen.{Tree-F}
use Rattle.esto_docmodel.specs.declared.tree.Tree.TheFolds.{fold-Tree}
use Rattle.esto_docmodel.specs.declared.pattern.Entry.{Entry}
use Rattle.esto_docmodel.specs.declared.pattern.Entry.TheOpen.{Entry-F}
use Rattle.esto_docmodel.specs.declared.pattern.Entry.TheFolds.{fold-Entry}

-- Items, or documents, in a row.
abbrev pub row : List Node → Forest
row [] = none
row (first ∷ rest) = kid place first.content first.inside (row rest)

-- Fields in a row.
abbrev pub named_row : List (FieldOf Node) → Forest
named_row [] = none
named_row (first ∷ rest) = kid (name first.name) first.tree.content first.tree.inside (named_row rest)

-- A tree whose parts are nodes.
abbrev pub shape_step : Tree-F Node → Node
shape_step (Tree-F.Value text) = node (Some text) none
shape_step (Tree-F.Nothing) = node None none
shape_step (Tree-F.Fields fields) = node None (named_row fields)
shape_step (Tree-F.Items items) = node None (row items)

-- A tree as a node: a value holds its text, and no other tree holds one; fields stand below under their names, items without.
abbrev pub shape : Tree → Node
shape = fold-Tree Node shape_step

-- A field with the shape of what stands there.
abbrev pub shaped_field : FieldOf Tree → FieldOf Node
shaped_field field = record { name = field.name; tree = shape field.tree }

-- Documents in a row.
abbrev pub documents : List Tree → Forest
documents trees = row (map shape trees)

-- What an entry puts before others.
abbrev pub More : Type 0
More = Entries → Entries

-- Entries one after another.
abbrev pub chain : List More → Entries
chain [] = done
chain (first ∷ rest) = first (chain rest)

-- An entry whose parts are so.
abbrev pub entry_step : Entry-F More → More
entry_step (Entry-F.Value path term) rest = holds path term rest
entry_step (Entry-F.Group path inner) rest = group path (chain inner) rest

-- An entry as what it puts before others.
abbrev pub entry_shape : Entry → More
entry_shape = fold-Entry More entry_step

-- The entries of a pattern, in order.
abbrev pub entries_of : List Entry → Entries
entries_of entries = chain (map entry_shape entries)
