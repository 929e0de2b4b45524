-- Facts as what is expanded of atoms of their own.
use Rattle.std.specs.Prelude.{◌≡◌, ◌↔◌, List, Some, slice_get, Contains}
use Rattle.esto_semantics.specs.declared.fact.Fact.{Fact}
use Rattle.esto_term.specs.declared.term.Term.{Term}
use Rattle.esto_semantics.specs.declared.expanded.ExpandedFact.{ExpandedFact}

-- What is expanded are exactly the facts, each of the atom of its own number.
abbrev pub AreNumbered : List (Fact Term) → List ExpandedFact → Type 0
AreNumbered facts expanded =
    (fact : ExpandedFact) → Contains expanded fact ↔ ((fact.place ≡ 0) × (slice_get facts fact.atom ≡ Some fact.fact))
