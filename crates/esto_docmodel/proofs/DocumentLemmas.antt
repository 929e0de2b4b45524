-- Documents encoded one after another.
use Rattle.std.proofs.Common.{◌≡◌, ℕ, ◌+◌, ◌<◌, List, [], ◌∷◌, ◌++◌, take, length, get_or, Some, sym, ap, ◌∙◌, subst, arith, append_assoc, append-nil}
use Rattle.std.proofs.lemmas.Option.{slice_get-get_or}
use Rattle.esto_term.specs.declared.term.Term.{Term}
use Rattle.esto_term.proofs.PlaceLemmas.{take-there}
use Rattle.esto_semantics.specs.declared.fact.Fact.{Fact}
use Rattle.esto_docmodel.specs.Encodings.{every, facts_from, facts_of, kept, kept_of, size}
use Rattle.esto_docmodel.specs.Putting.{Encodes}
use Rattle.esto_docmodel.specs.Shapes.{documents}
use Rattle.esto_docmodel.specs.declared.encode.Encoded.{Encoded}
use Rattle.esto_docmodel.specs.declared.kept.Kept.{Kept}
use Rattle.esto_docmodel.specs.declared.tree.Tree.{Tree}
use Rattle.esto_docmodel.proofs.EncodeLemmas.{all_kept, every_kept, kept-append, rising_append, row_append, size_append}

-- what is kept of documents and of more after them
pub kept_append : (relations : Kept) (first : ℕ) (trees more : List Tree) → kept_of relations first (documents (trees ++ more))
    ≡ kept_of relations first (documents trees) ++ kept_of relations (first + size (documents trees)) (documents more)
kept_append relations first trees more =
    ap (kept relations) (row_append trees more first)
    ∙ kept-append relations (facts_from [] first (documents trees)) (facts_from [] (first + size (documents trees)) (documents more))

-- no documents more
pub none_more : (relations : Kept) (encoded : Encoded) → Encodes relations [] encoded encoded
none_more relations encoded = record { facts = sym (append-nil encoded.facts); next = omega arith; rising = tt }

-- documents, and more after them
pub both_encoded : (relations : Kept) (trees more : List Tree) (start old new : Encoded) → Encodes relations trees start old → Encodes relations more old new
    → Encodes relations (trees ++ more) start new
both_encoded relations trees more start old new before step = record {
  facts = step.facts
      ∙ ap (λ (w : List (Fact Term)). w ++ kept_of relations old.next (documents more)) before.facts
      ∙ append_assoc start.facts _ _
      ∙ ap (λ (k : ℕ). start.facts ++ (kept_of relations start.next (documents trees) ++ kept_of relations k (documents more))) before.next
      ∙ ap (λ (w : List (Fact Term)). start.facts ++ w) (sym (kept_append relations start.next trees more));
  next = let whole = size_append trees more in omega (arith, step.next, before.next, whole);
  rising = rising_append trees more before.rising step.rising;
}

-- one document more
pub one_more : (relations : Kept) (trees : List Tree) (i : ℕ) (tree d : Tree) (start old new : Encoded) → i < length trees → tree ≡ get_or trees i d
    → Encodes relations (take i trees) start old → Encodes relations (tree ∷ []) old new → Encodes relations (take (i + 1) trees) start new
one_more relations trees i tree d start old new within is before step =
    subst (λ (them : List Tree). Encodes relations them start new) (sym (take-there trees i tree (slice_get-get_or trees i d within ∙ ap Some (sym is))))
    (both_encoded relations (take i trees) (tree ∷ []) start old new before step)

-- where all five relations are kept, and nothing was there
pub every_encoded : (base first : ℕ) (trees : List Tree) (start new : Encoded) → start.facts ≡ [] → start.next ≡ first → Encodes (every base) trees start new
    → new.facts ≡ facts_of base first (documents trees)
every_encoded base first trees start new empty next encodes =
    encodes.facts
    ∙ ap (λ (w : List (Fact Term)). w ++ kept_of (every base) start.next (documents trees)) empty
    ∙ ap (λ (k : ℕ). kept_of (every base) k (documents trees)) next
    ∙ all_kept (every base) (every_kept base) (facts_from [] first (documents trees))
