-- Binding patterns: which sets of fragment atoms can be executed, and in which orders. Source: access limitations by binding patterns (Rajaraman, Sagiv and
-- Ullman 1995; Li and Chang 2000).
use Rattle.std.specs.Prelude.{◌≡◌, ◌≢◌, ◌⊎◌, ◌↔◌, ℕ, ◌<◌, Bool, true, List, [], Some, length, replicate, slice_get, slice_index_or, Contains, AllPairs}
use Rattle.esto_term.specs.declared.term.Term.{Term}
use Rattle.esto_semantics.specs.Maps.{IsConstant}
use Rattle.esto_semantics.specs.Queries.{ConjunctiveQuery}
use Rattle.esto_term.specs.Sets.{Has, Within}
use Rattle.esto_semantics.specs.declared.fact.Fact.{Fact}

-- The binding patterns of each fragment, by its number. A fragment has one or more, and a pattern has a truth value for each column, true for an input.
abbrev pub Patterns : Type 0
Patterns = List (List (List Bool))

-- The fragment has the pattern.
abbrev pub HasPattern : Patterns → ℕ → List Bool → Type 0
HasPattern patterns fragment pattern = Contains (slice_index_or patterns fragment []) pattern

-- The column is an input of the pattern.
abbrev pub IsInput : List Bool → ℕ → Type 0
IsInput pattern column = slice_get pattern column ≡ Some true

-- The term is a constant, or it occurs in one of the atoms that are chosen by number.
abbrev pub IsBound : List (Fact Term) → (ℕ → Type 0) → Term → Type 0
IsBound atoms Chosen term =
    IsConstant term ⊎ ((number : ℕ) × Chosen number × ((atom : Fact Term) × (slice_get atoms number ≡ Some atom) × Contains atom.terms term))

-- The atom meets the pattern after the chosen atoms: each input column holds a constant or a term that occurs in one of them.
abbrev pub MeetsPattern : List (Fact Term) → (ℕ → Type 0) → Fact Term → List Bool → Type 0
MeetsPattern atoms Chosen atom pattern =
    (column : ℕ) (term : Term) → IsInput pattern column → slice_get atom.terms column ≡ Some term → IsBound atoms Chosen term

-- The atom is accessible after the chosen atoms: it meets one of its fragment's patterns.
abbrev pub IsAccessible : Patterns → List (Fact Term) → (ℕ → Type 0) → Fact Term → Type 0
IsAccessible patterns atoms Chosen atom = (pattern : List Bool) × HasPattern patterns atom.relation pattern × MeetsPattern atoms Chosen atom pattern

-- Each of the atoms has a pattern of which no column is an input.
abbrev pub AreOpen : Patterns → List (Fact Term) → Type 0
AreOpen patterns atoms =
    (atom : Fact Term) → Contains atoms atom → (pattern : List Bool) × HasPattern patterns atom.relation pattern × ((column : ℕ) → IsInput pattern column → ⊥)

-- The number stands in the list before a place.
abbrev pub IsEarlier : List ℕ → ℕ → ℕ → Type 0
IsEarlier order place number = (earlier : ℕ) × (earlier < place) × (slice_get order earlier ≡ Some number)

-- The list is an order of a set of the atoms: it names each atom of the set once and no other, and each is accessible after the earlier ones.
pub record IsOrder (patterns : Patterns) (atoms : List (Fact Term)) (set : List Bool) (order : List ℕ) : Type 0 where
  pub over : length set ≡ length atoms
  pub names : (number : ℕ) → Contains order number ↔ Has set number
  pub once : AllPairs ◌≢◌ order
  pub accessible : (place number : ℕ) (atom : Fact Term) → slice_get order place ≡ Some number → slice_get atoms number ≡ Some atom
      → IsAccessible patterns atoms (IsEarlier order place) atom

-- The set is executable: it has an order.
abbrev pub IsExecutable : Patterns → List (Fact Term) → List Bool → Type 0
IsExecutable patterns atoms set = (order : List ℕ) × IsOrder patterns atoms set order

-- The part is the accessible part of the set: its greatest executable subset.
pub record IsAccessiblePart (patterns : Patterns) (atoms : List (Fact Term)) (set part : List Bool) : Type 0 where
  pub within : Within part set
  pub executable : IsExecutable patterns atoms part
  pub greatest : (other : List Bool) → IsExecutable patterns atoms other → Within other set → Within other part

-- P holds of the set, which is executable.
abbrev pub HoldsExecutably : Patterns → List (Fact Term) → (List Bool → Type 0) → List Bool → Type 0
HoldsExecutably patterns atoms P set = IsExecutable patterns atoms set × P set

-- P holds of the accessible part of the set, which is one of the atoms.
pub record HoldsOfPart (patterns : Patterns) (atoms : List (Fact Term)) (P : List Bool → Type 0) (set : List Bool) : Type 0 where
  pub over : length set ≡ length atoms
  pub part : List Bool
  pub is_part : IsAccessiblePart patterns atoms set part
  pub holds : P part

-- The stated order takes the accessible atom of least number each time: no lesser number of the set that is still to come is accessible at that place.
pub record IsStatedOrder (patterns : Patterns) (atoms : List (Fact Term)) (set : List Bool) (order : List ℕ) : Type 0 where
  pub is_order : IsOrder patterns atoms set order
  pub least : (place number : ℕ) → slice_get order place ≡ Some number
      → (lesser : ℕ) (atom : Fact Term) → lesser < number → Has set lesser → slice_get atoms lesser ≡ Some atom
      → IsAccessible patterns atoms (IsEarlier order place) atom → IsEarlier order place lesser

-- The query over fragments is executable: the set of all atoms of its body is.
abbrev pub IsExecutableQuery : Patterns → ConjunctiveQuery → Type 0
IsExecutableQuery patterns query = IsExecutable patterns query.body (replicate (length query.body) true)
