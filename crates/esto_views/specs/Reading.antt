-- The terms of rows and of a head, as they are read.
use Rattle.std.specs.Prelude.{◌≡◌, ◌↔◌, List, [], ◌∷◌, ◌++◌, Contains, AllPairs}
use Rattle.std.specs.List.{flat_map}
use Rattle.esto_term.specs.declared.term.Term.{Term}
use Rattle.esto_semantics.specs.Maps.{IsConstant}
use Rattle.esto_semantics.specs.declared.fact.Fact.{Fact}

-- The terms of the rows, in order, and then those of the head.
abbrev pub terms_read : List (Fact Term) → List Term → List Term
terms_read rows head = flat_map (λ row. row.terms) rows ++ head

-- The term occurs before the other: it stands at a place up to which the other does not.
abbrev pub OccursBefore : List Term → Term → Term → Type 0
OccursBefore terms term other =
    (front : List Term) × ((back : List Term) × (terms ≡ (front ++ term ∷ []) ++ back) × ¬ (Contains (front ++ term ∷ []) other))

-- These are exactly the terms that are no constants, each once, by first occurrence.
pub record AreFirstOccurrences (terms seen : List Term) : Type 0 where
  pub exact : (term : Term) → Contains seen term ↔ (Contains terms term × ¬ (IsConstant term))
  pub ordered : AllPairs (OccursBefore terms) seen
