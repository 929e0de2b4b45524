-- The fields of written objects.
use Rattle.std.proofs.Common.{◌≡◌, ◌≢◌, ◌⊎◌, ◌∙◌, ℕ, List, map, Some, None, inl, inr, refl, sym, ap, nat_cmp, Ordering, Less, Equal, Greater}
use Rattle.std.proofs.lemmas.Map.Lookups.{exact_bytes}
use Rattle.std.specs.Cmp.Lexicographic.{slice_cmp}
use Rattle.std.specs.Ordering.{match_ordering}
use Rattle.serde_json.specs.Data.{Data, string, array, object, Items, Members, no_members, member, put}
use Rattle.esto_docmodel.specs.Forests.{name, Forest, none, Node, node, HasKid}
use Rattle.esto_docmodel.specs.Shapes.{shape, shape_step, shaped_field, row, named_row}
use Rattle.esto_docmodel.specs.declared.field.FieldOf.{FieldOf}
use Rattle.esto_docmodel.specs.declared.tree.Tree.{Tree, fold-roll-Tree}
use Rattle.esto_docmodel.specs.declared.tree.Tree.TheOpen.{Tree-F}
use Rattle.esto_docmodel.specs.declared.tree.Tree.TheVariants.{rolls-Value, rolls-Fields, rolls-Items}
use Rattle.esto_docs.specs.Trees.{tree_of, trees_of, fields_of}

-- The node of a value, and the nodes of fields in a row.
abbrev pub node_of : Data → Node
node_of d = shape (tree_of d)

abbrev pub forest_of : Members → Forest
forest_of ms = named_row (map shaped_field (fields_of ms))

pub node_string : (s : List ℕ) → node_of (string s) ≡ node (Some s) none
node_string s = ap shape (sym (rolls-Value s)) ∙ fold-roll-Tree Node shape_step (Tree-F.Value s)

pub node_object : (ms : Members) → node_of (object ms) ≡ node None (forest_of ms)
node_object ms = let fs : List (FieldOf Tree) = fields_of ms in ap shape (sym (rolls-Fields fs)) ∙ fold-roll-Tree Node shape_step (Tree-F.Fields fs)

pub node_array : (ds : Items) → node_of (array ds) ≡ node None (row (map shape (trees_of ds)))
node_array ds = let ts : List Tree = trees_of ds in ap shape (sym (rolls-Items ts)) ∙ fold-roll-Tree Node shape_step (Tree-F.Items ts)

-- The node stands under that name in the members.
abbrev pub HasField : List ℕ → Members → Node → Type 0
HasField q no_members u = ⊥
HasField q (member k d ms) u = ((k ≡ q) × (node_of d ≡ u)) ⊎ HasField q ms u

same_name : (k q : List ℕ) → name k ≡ name q → k ≡ q
same_name k q e = cc e

pub field_from : (q : List ℕ) (ms : Members) (u : Node) → HasKid (forest_of ms) (name q) u → HasField q ms u
field_from q no_members u h = h
field_from q (member k d ms) u (inl h) = inl (same_name k q h.0, h.1)
field_from q (member k d ms) u (inr h) = inr (field_from q ms u h)

pub field_to : (q : List ℕ) (ms : Members) (u : Node) → HasField q ms u → HasKid (forest_of ms) (name q) u
field_to q no_members u h = h
field_to q (member k d ms) u (inl h) = inl (ap name h.0, h.1)
field_to q (member k d ms) u (inr h) = inr (field_to q ms u h)

-- No node stands under that name.
abbrev pub NoField : List ℕ → Members → Type 0
NoField k ms = (u : Node) → HasField k ms u → ⊥

-- ---- after a `put`, under another name

other_into : (o : Ordering) (q k l : List ℕ) (d e : Data) (ms more : Members) (u : Node) → slice_cmp nat_cmp k l ≡ o → q ≢ k
    → (HasField q more u → HasField q ms u)
    → HasField q (match_ordering o (member k d (member l e ms)) (member l d ms) (member l e more)) u → HasField q (member l e ms) u
other_into Less q k l d e ms more u is n next (inl h) = absurd (n (sym h.0))
other_into Less q k l d e ms more u is n next (inr h) = h
other_into Equal q k l d e ms more u is n next (inl h) = absurd (n (sym (exact_bytes k l is ∙ h.0)))
other_into Equal q k l d e ms more u is n next (inr h) = inr h
other_into Greater q k l d e ms more u is n next (inl h) = inl h
other_into Greater q k l d e ms more u is n next (inr h) = inr (next h)

other_from : (o : Ordering) (q k l : List ℕ) (d e : Data) (ms more : Members) (u : Node) → slice_cmp nat_cmp k l ≡ o → q ≢ k
    → (HasField q ms u → HasField q more u)
    → HasField q (member l e ms) u → HasField q (match_ordering o (member k d (member l e ms)) (member l d ms) (member l e more)) u
other_from Less q k l d e ms more u is n next h = inr h
other_from Equal q k l d e ms more u is n next (inl h) = absurd (n (sym (exact_bytes k l is ∙ h.0)))
other_from Equal q k l d e ms more u is n next (inr h) = inr h
other_from Greater q k l d e ms more u is n next (inl h) = inl h
other_from Greater q k l d e ms more u is n next (inr h) = inr (next h)

pub put_other_into : (q k : List ℕ) (d : Data) (ms : Members) (u : Node) → q ≢ k → HasField q (put k d ms) u → HasField q ms u
put_other_into q k d no_members u n (inl h) = absurd (n (sym h.0))
put_other_into q k d no_members u n (inr h) = h
put_other_into q k d (member l e ms) u n h = other_into (slice_cmp nat_cmp k l) q k l d e ms (put k d ms) u refl n (put_other_into q k d ms u n) h

pub put_other_from : (q k : List ℕ) (d : Data) (ms : Members) (u : Node) → q ≢ k → HasField q ms u → HasField q (put k d ms) u
put_other_from q k d no_members u n h = absurd h
put_other_from q k d (member l e ms) u n h = other_from (slice_cmp nat_cmp k l) q k l d e ms (put k d ms) u refl n (put_other_from q k d ms u n) h

-- ---- and under the same

same_into : (o : Ordering) (k l : List ℕ) (d e : Data) (ms more : Members) (u : Node) → slice_cmp nat_cmp k l ≡ o → (HasField k (member l e ms) u → ⊥)
    → (HasField k more u → u ≡ node_of d)
    → HasField k (match_ordering o (member k d (member l e ms)) (member l d ms) (member l e more)) u → u ≡ node_of d
same_into Less k l d e ms more u is no_field next (inl h) = sym h.1
same_into Less k l d e ms more u is no_field next (inr h) = absurd (no_field h)
same_into Equal k l d e ms more u is no_field next (inl h) = sym h.1
same_into Equal k l d e ms more u is no_field next (inr h) = absurd (no_field (inr h))
same_into Greater k l d e ms more u is no_field next (inl h) = absurd (no_field (inl h))
same_into Greater k l d e ms more u is no_field next (inr h) = next h

same_from : (o : Ordering) (k l : List ℕ) (d e : Data) (ms more : Members) → slice_cmp nat_cmp k l ≡ o → HasField k more (node_of d)
    → HasField k (match_ordering o (member k d (member l e ms)) (member l d ms) (member l e more)) (node_of d)
same_from Less k l d e ms more is next = inl (refl, refl)
same_from Equal k l d e ms more is next = inl (sym (exact_bytes k l is), refl)
same_from Greater k l d e ms more is next = inr next

pub put_same_into : (k : List ℕ) (d : Data) (ms : Members) (u : Node) → NoField k ms → HasField k (put k d ms) u → u ≡ node_of d
put_same_into k d no_members u no_field (inl h) = sym h.1
put_same_into k d no_members u no_field (inr h) = absurd h
put_same_into k d (member l e ms) u no_field h =
    same_into (slice_cmp nat_cmp k l) k l d e ms (put k d ms) u refl (no_field u) (put_same_into k d ms u (λ v there. no_field v (inr there))) h

pub put_same_from : (k : List ℕ) (d : Data) (ms : Members) → HasField k (put k d ms) (node_of d)
put_same_from k d no_members = inl (refl, refl)
put_same_from k d (member l e ms) = same_from (slice_cmp nat_cmp k l) k l d e ms (put k d ms) refl (put_same_from k d ms)
