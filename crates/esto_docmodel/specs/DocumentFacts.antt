-- Facts of documents: by their kind, and as facts of five relations that stand one after another.
use Rattle.std.specs.Prelude.{ℕ, ◌+◌, List, [], ◌∷◌}
use Rattle.esto_semantics.specs.declared.fact.Fact.{Fact}

-- A node is a document; is the field of a node by a name; is an item of a node; holds a text; or stands below a node.
pub data DocFact (V : Type 0) : Type 0 where
  root : V → DocFact V
  field : V → V → V → DocFact V
  item : V → V → DocFact V
  value : V → V → DocFact V
  below : V → V → DocFact V

-- The image of such a fact under a map.
abbrev pub carried : {V W : Type 0} → (V → W) → DocFact V → DocFact W
carried m (root n) = root (m n)
carried m (field p k n) = field (m p) (m k) (m n)
carried m (item p n) = item (m p) (m n)
carried m (value n t) = value (m n) (m t)
carried m (below a n) = below (m a) (m n)

-- The place of its relation among the five: root, field, item, value, below.
abbrev pub kind : {V : Type 0} → DocFact V → ℕ
kind (root n) = 0
kind (field p k n) = 1
kind (item p n) = 2
kind (value n t) = 3
kind (below a n) = 4

-- Its row.
abbrev pub row_of : {V : Type 0} → DocFact V → List V
row_of (root n) = n ∷ []
row_of (field p k n) = p ∷ k ∷ n ∷ []
row_of (item p n) = p ∷ n ∷ []
row_of (value n t) = n ∷ t ∷ []
row_of (below a n) = a ∷ n ∷ []

-- It as a fact of one of the five relations that stand from the base on.
abbrev pub flat : {V : Type 0} → ℕ → DocFact V → Fact V
flat base fact = record { relation = base + kind fact; terms = row_of fact }
