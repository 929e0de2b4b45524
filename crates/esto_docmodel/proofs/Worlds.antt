-- Facts in which numbers of nodes and nodes are tied: all that a pattern's proof wants of an encoding.
use Rattle.std.specs.Prelude.{◌≡◌, ℕ, List, Some, Contains}
use Rattle.esto_term.specs.declared.term.Term.{Term}
use Rattle.esto_term.specs.declared.term.Term.TheVariants.{Const, Plain}
use Rattle.esto_docmodel.specs.DocumentFacts.{DocFact, root, value, carried}
use Rattle.esto_docmodel.specs.Encodings.{linked}
use Rattle.esto_docmodel.specs.Forests.{Node}
use Rattle.esto_docmodel.specs.Patterns.{Takes, IsBelow}
use Rattle.esto_docmodel.specs.declared.pattern.Step.{Step}

-- The map sends each of the atoms to a fact that holds.
abbrev pub Sends : (Term → Term) → List (DocFact Term) → (DocFact Term → Type 0) → Type 0
Sends m body P = (atom : DocFact Term) → Contains body atom → P (carried m atom)

-- A number is that of a node: documents are roots and roots documents, steps are facts and facts steps, and so are values.
pub record IsEncoded (Is : ℕ → Node → Type 0) (IsDocument : Node → Type 0) (P : DocFact Term → Type 0) : Type 0 where
  pub from_root : (x : Term) → P (root x) → (n : ℕ) × (t : Node) × (x ≡ Plain n) × Is n t × IsDocument t
  pub to_root : (t : Node) → IsDocument t → (n : ℕ) × Is n t × P (root (Plain n))
  pub from_step : (s : Step) (n : ℕ) (t : Node) (y : Term) → Is n t → P (linked Const s (Plain n) y)
      → (k : ℕ) × (u : Node) × (y ≡ Plain k) × Is k u × Takes s t u
  pub to_step : (s : Step) (n : ℕ) (t u : Node) → Is n t → Takes s t u → (k : ℕ) × Is k u × P (linked Const s (Plain n) (Plain k))
  pub from_value : (n : ℕ) (t : Node) (y : Term) → Is n t → P (value (Plain n) y) → (c : List ℕ) × (y ≡ Const c) × (t.content ≡ Some c)
  pub to_value : (n : ℕ) (t : Node) (c : List ℕ) → Is n t → t.content ≡ Some c → P (value (Plain n) (Const c))

-- Two maps agree on the terms other than variables from the bound on.
abbrev pub Agrees : ℕ → (Term → Term) → (Term → Term) → Type 0
Agrees bound f g = (x : Term) → IsBelow bound x → f x ≡ g x
