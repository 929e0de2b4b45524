-- The rows that fragments hold. A row of a fragment is a fact whose relation is the fragment's number.
use Rattle.std.specs.Prelude.{ℕ, List, [], slice_index_or, Contains}
use Rattle.esto_semantics.specs.declared.fact.Fact.{Fact}

-- The fact is among the rows of the fragment of its number.
abbrev pub IsRowOf : {V : Type 0} → (ℕ → List (List V)) → Fact V → Type 0
IsRowOf rows fact = Contains (rows fact.relation) fact.terms

-- The rows of the fragment of a number, where the list has those of each in order; a number past the list has none.
abbrev pub held_by : {V : Type 0} → List (List (List V)) → ℕ → List (List V)
held_by rows number = slice_index_or rows number []
