-- The facts of rows of texts.
use Rattle.std.specs.Prelude.{◌≡◌, ℕ, List, map}
use Rattle.esto_term.specs.declared.term.Term.{Term}
use Rattle.esto_term.specs.declared.term.Term.TheVariants.{Const}
use Rattle.esto_semantics.specs.declared.fact.Fact.{Fact}
use Rattle.esto_relmodel.specs.Once.{AreEachOnce}

-- A row as a fact of the relation, over its cells as constants.
abbrev pub row_fact : ℕ → List (List ℕ) → Fact Term
row_fact relation row = record { relation = relation; terms = map Const row }

-- The facts are those of the rows, each row once, in order of first occurrence.
abbrev pub AreRowFacts : ℕ → List (List (List ℕ)) → List (Fact Term) → Type 0
AreRowFacts relation rows facts = (kept : List (List (List ℕ))) × AreEachOnce rows kept × (facts ≡ map (row_fact relation) kept)
