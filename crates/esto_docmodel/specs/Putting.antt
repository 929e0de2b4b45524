-- What the loops of the encodings put, a node and an entry at a time.
use Rattle.std.specs.Prelude.{◌≡◌, ℕ, suc, ◌+◌, List, [], ◌∷◌, ◌++◌, Option}
use Rattle.esto_term.specs.declared.term.Term.{Term}
use Rattle.esto_semantics.specs.declared.fact.Fact.{Fact}
use Rattle.esto_docmodel.specs.DocumentFacts.{DocFact}
use Rattle.esto_docmodel.specs.Encodings.{belows, holding, facts_from, kept_of, size}
use Rattle.esto_docmodel.specs.Forests.{Node}
use Rattle.esto_docmodel.specs.Gaining.{Gains}
use Rattle.esto_docmodel.specs.Rising.{AreRising}
use Rattle.esto_docmodel.specs.Shapes.{documents}
use Rattle.esto_docmodel.specs.declared.encode.Encoded.{Encoded}
use Rattle.esto_docmodel.specs.declared.kept.Kept.{Kept}
use Rattle.esto_docmodel.specs.declared.tree.Tree.{Tree}

-- The nodes above, the innermost first, from those with the outermost first.
abbrev pub turned : List ℕ → List ℕ
turned [] = []
turned (x ∷ xs) = turned xs ++ x ∷ []

-- The facts of a node and of all that stands inside it, but for how it is entered.
abbrev pub node_facts : List ℕ → ℕ → Node → List (DocFact Term)
node_facts above n t = belows above n ++ (holding t.content n ++ facts_from (n ∷ above) (suc n) t.inside)

-- The facts of these documents, as far as they are kept, have come after those that were there, and their nodes have the next numbers. The names of
-- their fields rise.
pub record Encodes (relations : Kept) (trees : List Tree) (old new : Encoded) : Type 0 where
  pub facts : new.facts ≡ old.facts ++ kept_of relations old.next (documents trees)
  pub next : new.next ≡ old.next + size (documents trees)
  pub rising : AreRising trees

-- The sink has gained the facts of these documents, as far as they are kept; their nodes are numbered from `first` on, and `later` is the first number that
-- is no node's. The names of their fields rise.
pub record PutsDocuments {S : Type 0} (Holds : S → List (Fact Term) → Type 0) (arities : S → Option (List ℕ)) (relations : Kept) (trees : List Tree)
    (first later : ℕ) (old new : S) : Type 0 where
  pub facts : Gains Holds arities (kept_of relations first (documents trees)) old new
  pub next : later ≡ first + size (documents trees)
  pub rising : AreRising trees
