-- Documents put one after another.
use Rattle.std.proofs.Common.{◌≡◌, ℕ, ◌+◌, ◌<◌, List, [], ◌∷◌, take, length, get_or, sym, subst}
use Rattle.std.specs.Prelude.{Option}
use Rattle.serde_json.specs.View.{view, items_view}
use Rattle.serde_json.specs.declared.value.Value.{Value}
use Rattle.esto_semantics.specs.declared.fact.Fact.{Fact}
use Rattle.esto_term.specs.declared.term.Term.{Term}
use Rattle.esto_docmodel.specs.Putting.{PutsDocuments}
use Rattle.esto_docmodel.specs.declared.kept.Kept.{Kept}
use Rattle.esto_docmodel.specs.declared.tree.Tree.{Tree}
use Rattle.esto_docmodel.proofs.GainLemmas.{puts_more}
use Rattle.esto_docs.proofs.TreeLemmas.{trees_more}
use Rattle.esto_docs.specs.Trees.{tree_of, trees_of}

-- one JSON value more
pub items_more : {S : Type 0} (Holds : S → List (Fact Term) → Type 0) (arities : S → Option (List ℕ)) (relations : Kept) (first next later : ℕ)
    (vs : List Value) (i : ℕ) (v d : Value) (start old new : S) → i < length vs → v ≡ get_or vs i d
    → PutsDocuments Holds arities relations (trees_of (items_view (take i vs))) first next start old
    → PutsDocuments Holds arities relations (tree_of (view v) ∷ []) next later old new
    → PutsDocuments Holds arities relations (trees_of (items_view (take (i + 1) vs))) first later start new
items_more Holds arities relations first next later vs i v d start old new within is are step =
    subst (λ (trees : List Tree). PutsDocuments Holds arities relations trees first later start new) (sym (trees_more vs i v d within is))
    (puts_more Holds arities relations (trees_of (items_view (take i vs))) (tree_of (view v) ∷ []) first next later start old new are step)
