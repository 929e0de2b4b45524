-- The fragments that a set of a plan's atoms uses.
use Rattle.std.specs.Prelude.{◌≡◌, ◌≢◌, ◌↔◌, ◌⊎◌, ℕ, ◌<◌, Bool, List, [], ◌∷◌, ◌++◌, Some, map, slice_get, Contains, AllPairs}
use Rattle.std.specs.List.{flat_map}
use Rattle.esto_term.specs.declared.term.Term.{Term}
use Rattle.esto_semantics.specs.Queries.{ConjunctiveQuery}
use Rattle.esto_term.specs.Sets.{Has}
use Rattle.esto_semantics.specs.declared.fact.Fact.{Fact}

-- The number is that of an atom in the set, and the atom is one over the fragment.
abbrev pub Uses : List (Fact Term) → List Bool → ℕ → ℕ → Type 0
Uses atoms set fragment number = Has set number × ((atom : Fact Term) × (slice_get atoms number ≡ Some atom) × (atom.relation ≡ fragment))

-- It is the least such number.
pub record UsesFirst (atoms : List (Fact Term)) (set : List Bool) (fragment number : ℕ) : Type 0 where
  pub uses : Uses atoms set fragment number
  pub least : (lesser : ℕ) → lesser < number → ¬ (Uses atoms set fragment lesser)

-- These are exactly the fragments that the set uses, each once, in rising order of the least number of their atoms in it.
pub record AreUsed (atoms : List (Fact Term)) (set : List Bool) (fragments : List ℕ) : Type 0 where
  pub exact : (fragment : ℕ) → Contains fragments fragment ↔ ((number : ℕ) × Uses atoms set fragment number)
  pub rising : AllPairs (λ fragment other. (number later : ℕ)
      → UsesFirst atoms set fragment number → UsesFirst atoms set other later → number < later) fragments

-- The fragment of the atom of that number comes to the others, if the atom is in the set and the fragment isn't one of them.
abbrev pub AddsUse : List Bool → ℕ → ℕ → List ℕ → List ℕ → Type 0
AddsUse set number fragment old new =
    ((¬ (Has set number) ⊎ (Has set number × Contains old fragment)) × (new ≡ old))
    ⊎ (Has set number × ¬ (Contains old fragment) × (new ≡ old ++ fragment ∷ []))

-- ---- the fragments that several queries use

-- The number stands at the place of the list, and at no lesser one.
pub record StandsFirst (numbers : List ℕ) (number place : ℕ) : Type 0 where
  pub here : slice_get numbers place ≡ Some number
  pub least : (lesser : ℕ) → lesser < place → slice_get numbers lesser ≢ Some number

-- These are exactly the numbers of the list, each once, in the order in which they first stand in it.
pub record AreFirsts (numbers firsts : List ℕ) : Type 0 where
  pub exact : (number : ℕ) → Contains firsts number ↔ Contains numbers number
  pub rising : AllPairs (λ number other. (place later : ℕ)
      → StandsFirst numbers number place → StandsFirst numbers other later → place < later) firsts

-- The fragments of atoms, in order.
abbrev pub fragments_of : List (Fact Term) → List ℕ
fragments_of atoms = map (λ atom. atom.relation) atoms

-- These are exactly the fragments of the queries' atoms, each once, in the order in which they first come, query after query and atom after atom.
abbrev pub AreUsedByAll : List ConjunctiveQuery → List ℕ → Type 0
AreUsedByAll queries fragments = AreFirsts (flat_map (λ query. fragments_of query.body) queries) fragments
