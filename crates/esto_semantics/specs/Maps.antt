-- Maps of terms. A valuation is a map of terms to values that keeps constants; a homomorphism is one to terms that sends facts to facts.
use Rattle.std.specs.Prelude.{◌≡◌, ◌⊎◌, ℕ, List, Contains}
use Rattle.esto_term.specs.declared.term.Term.{Term}
use Rattle.esto_term.specs.declared.term.Term.TheVariants.{Const}
pub use Rattle.esto_term.specs.Kinds.{IsConstant, IsVariable, IsFlat}
use Rattle.esto_semantics.specs.Facts.{image, Mentions}
use Rattle.esto_semantics.specs.declared.fact.Fact.{Fact}

-- Each term of the facts is a constant or a variable.
abbrev pub AreFlat : List (Fact Term) → Type 0
AreFlat facts = (term : Term) → Mentions facts term → IsFlat term

-- The term is a constant, or it stands in one of the facts.
abbrev pub IsFixedBy : List (Fact Term) → Term → Type 0
IsFixedBy facts term = IsConstant term ⊎ Mentions facts term

-- The map sends each constant to what its text stands for.
abbrev pub Keeps : {V : Type 0} → (List ℕ → V) → (Term → V) → Type 0
Keeps constant m = (text : List ℕ) → m (Const text) ≡ constant text

-- The map sends each of the facts to one that holds.
abbrev pub SendsInto : {V W : Type 0} → (V → W) → List (Fact V) → (Fact W → Type 0) → Type 0
SendsInto {V} m facts Holds = (fact : Fact V) → Contains facts fact → Holds (image m fact)

-- The map sends each of the facts to one of the others.
abbrev pub Sends : {V W : Type 0} → (V → W) → List (Fact V) → List (Fact W) → Type 0
Sends m facts others = SendsInto m facts (Contains others)

-- Two maps send each term that the facts mention to one thing.
abbrev pub AgreeOn : {V : Type 0} → (V → V → Type 0) → List (Fact Term) → (Term → V) → (Term → V) → Type 0
AgreeOn One facts m other = (term : Term) → Mentions facts term → One (m term) (other term)
