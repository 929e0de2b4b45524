-- The shapes of each kind of tree and entry.
use Rattle.std.proofs.Common.{◌≡◌, ℕ, List, map, sym, ap, ◌∙◌, Some, None}
use Rattle.esto_term.specs.declared.term.Term.{Term}
use Rattle.esto_docmodel.specs.Forests.{node, none, Node}
use Rattle.esto_docmodel.specs.Patterns.{holds, group, Entries}
use Rattle.esto_docmodel.specs.Shapes.{More, shape, shape_step, row, named_row, shaped_field, entry_step, entry_shape, entries_of}
use Rattle.esto_docmodel.specs.declared.field.FieldOf.{FieldOf}
use Rattle.esto_docmodel.specs.declared.pattern.Step.{Step}
use Rattle.esto_docmodel.specs.declared.tree.Tree.{Tree, fold-roll-Tree}
use Rattle.esto_docmodel.specs.declared.tree.Tree.TheVariants.{Value, Nothing, Fields, Items, rolls-Value, rolls-Nothing, rolls-Fields, rolls-Items}
use Rattle.esto_docmodel.specs.declared.tree.Tree.TheOpen.{Tree-F}
use Rattle.esto_docmodel.specs.declared.pattern.Entry.{Entry, fold-roll-Entry}
use Rattle.esto_docmodel.specs.declared.pattern.Entry.TheVariants as entry
use Rattle.esto_docmodel.specs.declared.pattern.Entry.TheOpen.{Entry-F}

pub shape-Value : (text : List ℕ) → shape (Value text) ≡ node (Some text) none
shape-Value text = ap shape (sym (rolls-Value text)) ∙ fold-roll-Tree Node shape_step (Tree-F.Value text)

pub shape-Nothing : shape Nothing ≡ node None none
shape-Nothing = ap shape (sym rolls-Nothing) ∙ fold-roll-Tree Node shape_step Tree-F.Nothing

pub shape-Fields : (fs : List (FieldOf Tree)) → shape (Fields fs) ≡ node None (named_row (map shaped_field fs))
shape-Fields fs = ap shape (sym (rolls-Fields fs)) ∙ fold-roll-Tree Node shape_step (Tree-F.Fields fs)

pub shape-Items : (ts : List Tree) → shape (Items ts) ≡ node None (row (map shape ts))
shape-Items ts = ap shape (sym (rolls-Items ts)) ∙ fold-roll-Tree Node shape_step (Tree-F.Items ts)

pub entry-Value : (path : List Step) (x : Term) (rest : Entries) → entry_shape (entry.Value path x) rest ≡ holds path x rest
entry-Value path x rest = ap (λ (f : More). f rest) (ap entry_shape (sym (entry.rolls-Value path x)) ∙ fold-roll-Entry More entry_step (Entry-F.Value path x))

pub entry-Group : (path : List Step) (inner : List Entry) (rest : Entries) → entry_shape (entry.Group path inner) rest ≡ group path (entries_of inner) rest
entry-Group path inner rest = ap (λ (f : More). f rest)
    (ap entry_shape (sym (entry.rolls-Group path inner)) ∙ fold-roll-Entry More entry_step (Entry-F.Group path inner))
