-- For private clauses: texts with codes and relations of rows of codes, and what contracts see of them.
use Rattle.std.specs.Prelude.{◌≡◌, ℕ, List, [], ◌∷◌, ◌++◌, map, Contains}
use Rattle.esto_columns.specs.declared.stored.StoredRows.{StoredRows}
use Rattle.esto_docmodel.specs.Gaining.{fact_over}
use Rattle.esto_semantics.specs.declared.fact.Fact.{Fact}
use Rattle.esto_term.specs.declared.term.Term.{Term}
use Rattle.esto_coded.specs.Coded.{AreCodesOf, Coded, StandInOrder, arities_of}

-- What contracts see of the texts and the relations.
abbrev pub coded_of : List (List ℕ) → List StoredRows → Coded
coded_of texts relations = record { texts = texts; relations = map (λ (stored : StoredRows). stored.rows) relations }

-- Each of the relations is asked in one way alone, without inputs.
abbrev pub AreWhole : List StoredRows → Type 0
AreWhole relations = (relation : StoredRows) → Contains relations relation → relation.ways ≡ [] ∷ []

-- A relation of the arity, with no rows and that one way.
abbrev pub no_rows : ℕ → StoredRows
no_rows arity = record { rows = record { arity = arity; rows = [] }; ways = [] ∷ [] }

-- The row of codes came to the relation of the number: whatever facts the rows stood for in order, they stand now for those and then for the row's; and no
-- relation has other columns.
pub record PutsRow (number : ℕ) (codes : List ℕ) (old new : List StoredRows) : Type 0 where
  pub facts : (texts : List (List ℕ)) (terms : List Term) → AreCodesOf texts terms codes → (before : List (Fact Term))
      → StandInOrder (coded_of texts old) before → StandInOrder (coded_of texts new) (before ++ fact_over number terms ∷ [])
  pub arities : arities_of (coded_of [] new) ≡ arities_of (coded_of [] old)
