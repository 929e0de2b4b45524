-- Where a node stands among numbered nodes.
use Rattle.std.specs.Prelude.{◌≡◌, ◌⊎◌, ℕ, suc, ◌+◌, List, [], ◌∷◌, Some, Contains}
use Rattle.esto_term.specs.declared.term.Term.{Term}
use Rattle.esto_term.specs.declared.term.Term.TheVariants.{Const, Plain}
use Rattle.esto_docmodel.specs.DocumentFacts.{DocFact, value, below}
use Rattle.esto_docmodel.specs.Encodings.{size, entering}
use Rattle.esto_docmodel.specs.Forests.{Label, name, Forest, none, kid, Node, node, HasKid}

-- a node: the nodes above it, the innermost first, how it is entered, its number, its tree
pub record Spot : Type 0 where
  pub above : List ℕ
  pub label : Label
  pub number : ℕ
  pub here : Node

abbrev pub spot : List ℕ → Label → ℕ → Node → Spot
spot a l n t = record { above = a; label = l; number = n; here = t }

-- one of the nodes of the row, numbered from n below the nodes above
abbrev pub At : List ℕ → ℕ → Forest → Spot → Type 0
At a n none s = ⊥
At a n (kid l t i rest) s = (spot a l n (node t i) ≡ s) ⊎ (At (n ∷ a) (suc n) i s ⊎ At a (suc n + size i) rest s)

abbrev pub IsFactOf : Spot → DocFact Term → Type 0
IsFactOf s f = (entering s.above s.label s.number ≡ f)
    ⊎ (((x : ℕ) × Contains s.above x × (below (Plain x) (Plain s.number) ≡ f))
    ⊎ ((c : List ℕ) × (s.here.content ≡ Some c) × (value (Plain s.number) (Const c) ≡ f)))

-- no two trees of one row, inside, have one name
abbrev pub AreNamedOnce : Forest → Type 0
AreNamedOnce none = Unit {0}
AreNamedOnce (kid l t i rest) = ((k : List ℕ) (u : Node) → l ≡ name k → HasKid rest (name k) u → ⊥) × (AreNamedOnce i × AreNamedOnce rest)

abbrev pub Is : ℕ → Forest → ℕ → Node → Type 0
Is base forest n t = (s : Spot) × At [] base forest s × (s.number ≡ n) × (s.here ≡ t)
