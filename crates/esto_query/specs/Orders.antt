-- Bodies with the same atoms, and which atom a search takes next.
use Rattle.std.specs.Prelude.{◌≡◌, ◌<◌, ◌↔◌, List, Some, Contains, length, slice_get}
use Rattle.esto_term.specs.declared.term.Term.{Term}
use Rattle.esto_semantics.specs.declared.fact.Fact.{Fact}
use Rattle.esto_query.specs.Indexes.{AreCandidates}
use Rattle.esto_semantics.specs.Valuations.{Assignment}
use Rattle.esto_query.specs.declared.left.Choice.{Choice}

-- Each atom of one is in the other.
abbrev pub HaveSameAtoms : List (Fact Term) → List (Fact Term) → Type 0
HaveSameAtoms one other = (atom : Fact Term) → Contains one atom ↔ Contains other atom

-- The choice is the place of an atom that is left, with each place of a fact to which a map that extends the known valuation can send it.
pub record IsChoice (facts left : List (Fact Term)) (known : Assignment) (choice : Choice) : Type 0 where
  pub within : choice.place < length left
  pub serves : (atom : Fact Term) → slice_get left choice.place ≡ Some atom → AreCandidates facts atom known choice.found.now
