-- A turn of the loops that make trees.
use Rattle.std.proofs.Common.{◌≡◌, ◌<◌, ◌+◌, ◌∙◌, ◌++◌, ◌∷◌, [], ℕ, List, true, take, get_or, length, string_bytes, string_cmp, refl, ap, sym}
use Rattle.std.specs.List.Sorted.{IsStrictlySortedBy}
use Rattle.std.specs.Map.{keys_of}
use Rattle.std.proofs.lemmas.List.{take_more}
use Rattle.serde_json.specs.View.{view, items_view, members_view}
use Rattle.serde_json.specs.declared.value.Value.{Value}
use Rattle.serde_json.proofs.Views.{Entry}
use Rattle.esto_docmodel.specs.Names.{Rise, names_of, rise_from}
use Rattle.esto_docmodel.specs.declared.field.FieldOf.{FieldOf}
use Rattle.esto_docmodel.specs.declared.tree.Tree.{Tree}
use Rattle.esto_docs.specs.Trees.{field_of, tree_of, trees_of, fields_of}

pub trees_push : (vs : List Value) (v : Value) → trees_of (items_view (vs ++ v ∷ [])) ≡ trees_of (items_view vs) ++ tree_of (view v) ∷ []
trees_push [] v = refl
trees_push (w ∷ vs) v = ap (λ (ts : List Tree). tree_of (view w) ∷ ts) (trees_push vs v)

pub trees_more : (vs : List Value) (i : ℕ) (v d : Value) → i < length vs → v ≡ get_or vs i d
    → trees_of (items_view (take (i + 1) vs)) ≡ trees_of (items_view (take i vs)) ++ tree_of (view v) ∷ []
trees_more vs i v d h e =
    ap (λ (ws : List Value). trees_of (items_view ws)) (take_more vs i d h)
    ∙ ap (λ (w : Value). trees_of (items_view (take i vs ++ w ∷ []))) (sym e) ∙ trees_push (take i vs) v

pub trees_go : (vs : List Value) (i : ℕ) (v d : Value) (trees new : List Tree) → i < length vs → v ≡ get_or vs i d → trees ≡ trees_of (items_view (take i vs))
    → new ≡ trees ++ tree_of (view v) ∷ [] → new ≡ trees_of (items_view (take (i + 1) vs))
trees_go vs i v d trees new h e t n = n ∙ ap (λ (ts : List Tree). ts ++ tree_of (view v) ∷ []) t ∙ sym (trees_more vs i v d h e)

pub fields_push : (es : List Entry) (e : Entry)
    → fields_of (members_view (es ++ e ∷ [])) ≡ fields_of (members_view es) ++ field_of (string_bytes e.0) (tree_of (view e.1)) ∷ []
fields_push [] e = refl
fields_push (f ∷ es) e = ap (λ (fs : List (FieldOf Tree)). field_of (string_bytes f.0) (tree_of (view f.1)) ∷ fs) (fields_push es e)

pub fields_go : (fields old : List (FieldOf Tree)) (name key : List ℕ) (tree whole : Tree) → fields ≡ old → name ≡ key → tree ≡ whole
    → fields ++ field_of name tree ∷ [] ≡ old ++ field_of key whole ∷ []
fields_go fields old name key tree whole f n t = rw (f, n, t) refl

-- The keys of a map rise, and so do the names of the fields up to each.
rises_from : (first : Entry) (es : List Entry) (e : Entry) (more : List Entry) → IsStrictlySortedBy string_cmp (keys_of (first ∷ (es ++ e ∷ more)))
    → rise_from (string_bytes first.0) (names_of (fields_of (members_view (es ++ e ∷ [])))) ≡ true
unfolding IsStrictlySortedBy
rises_from first [] e more h = rw h.0.0 refl
rises_from first (f ∷ es) e more h = rw h.0.0 (rises_from f es e more h.1)

pub rises : (es : List Entry) (e : Entry) (more : List Entry) → IsStrictlySortedBy string_cmp (keys_of (es ++ e ∷ more))
    → Rise (fields_of (members_view (es ++ e ∷ [])))
rises [] e more h = refl
rises (f ∷ es) e more h = rises_from f es e more h

all_rise_from : (first : Entry) (es : List Entry) → IsStrictlySortedBy string_cmp (keys_of (first ∷ es))
    → rise_from (string_bytes first.0) (names_of (fields_of (members_view es))) ≡ true
unfolding IsStrictlySortedBy
all_rise_from first [] h = refl
all_rise_from first (e ∷ es) h = rw h.0.0 (all_rise_from e es h.1)

pub all_rise : (es : List Entry) → IsStrictlySortedBy string_cmp (keys_of es) → Rise (fields_of (members_view es))
all_rise [] h = refl
all_rise (e ∷ es) h = all_rise_from e es h
