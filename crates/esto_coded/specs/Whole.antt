-- For private clauses: the steps of a query over relations that are asked as a whole, and atoms over these.
use Rattle.std.specs.Prelude.{◌≡◌, ◌≢◌, ◌⊎◌, ℕ, Bool, true, false, List, [], ◌∷◌, ◌++◌, Some, map, length, take, slice_get, Contains}
use Rattle.std.specs.List.{AllZip}
use Rattle.esto_term.specs.declared.term.Term.{Term}
use Rattle.esto_columns.specs.Columns.{HaveLength}
use Rattle.esto_columns.specs.declared.stored.StoredRows.{StoredRows}
use Rattle.esto_semantics.specs.Facts.{terms_of}
use Rattle.esto_semantics.specs.Queries.{ConjunctiveQuery}
use Rattle.esto_semantics.specs.declared.fact.Fact.{Fact}
use Rattle.esto_steps.specs.Planned.{IsSource, IsLink, IsNew}
use Rattle.esto_steps.specs.declared.steps.Get.{Get}
use Rattle.esto_steps.specs.declared.steps.Link.{Link}
use Rattle.esto_steps.specs.declared.steps.Source.{Source}
use Rattle.esto_steps.specs.declared.steps.Steps.{Steps}
use Rattle.esto_coded.specs.Coded.{rows_in}

-- The term is new after the bound ones, and no link has come; or the link of its column has come, with a source of the term among them.
abbrev pub IsLinked : List (List ℕ) → List Term → Term → ℕ → List Link → List Link → Type 0
IsLinked texts bound term column old new =
    (IsNew bound term × (new ≡ old)) ⊎ ((source : Source) × IsSource texts bound term source × (new ≡ old ++ record { column = column; source = source } ∷ []))

-- The links filter rows for the terms after the bound ones: each column is linked whose term is a constant, is bound, or stands at an earlier column.
pub record AreFilters (texts : List (List ℕ)) (bound terms : List Term) (links : List Link) : Type 0 where
  pub sound : (link : Link) → Contains links link → IsLink texts (bound ++ take link.column terms) terms link
  pub complete : (column : ℕ) (term : Term) → slice_get terms column ≡ Some term
      → IsNew (bound ++ take column terms) term ⊎ ((link : Link) × (link.column ≡ column) × Contains links link)

-- The get takes all rows of the atom's relation, and filters them.
pub record IsWholeGet (texts : List (List ℕ)) (bound : List Term) (atom : Fact Term) (get : Get) : Type 0 where
  pub fragment : get.fragment ≡ atom.relation
  pub inputs : get.inputs ≡ []
  pub filters : AreFilters texts bound atom.terms get.filters

-- The gets are those of the atoms, one each, after the bound terms.
abbrev pub AreWholeGets : List (List ℕ) → List Term → List (Fact Term) → List Get → Type 0
AreWholeGets texts bound [] [] = Unit {0}
AreWholeGets texts bound [] (get ∷ gets) = ⊥
AreWholeGets texts bound (atom ∷ atoms) [] = ⊥
AreWholeGets texts bound (atom ∷ atoms) (get ∷ gets) = IsWholeGet texts bound atom get × AreWholeGets texts (bound ++ atom.terms) atoms gets

-- The steps are those of the query: a get for each atom, in order, and a source for each term of the head.
pub record AreWholeSteps (texts : List (List ℕ)) (query : ConjunctiveQuery) (steps : Steps) : Type 0 where
  pub gets : AreWholeGets texts [] query.body steps.gets
  pub head : AllZip (IsSource texts (terms_of query.body)) query.head steps.head

-- Each of the gets takes all rows of one of the relations, which is asked as a whole.
abbrev pub TakeWhole : List StoredRows → List Get → Type 0
TakeWhole relations gets = (get : Get) → Contains gets get
    → (get.inputs ≡ []) × ((relation : StoredRows) × (slice_get relations get.fragment ≡ Some relation) × (relation.ways ≡ [] ∷ []))

-- The atom's relation is there, and each of its rows has as many codes as the atom has terms.
abbrev pub IsOver : List StoredRows → Fact Term → Type 0
IsOver relations atom = (relation : StoredRows) × (slice_get relations atom.relation ≡ Some relation) × HaveLength (length atom.terms) relation.rows.rows

-- No row of the atom's relation has as many codes as the atom has terms.
abbrev pub IsVain : List StoredRows → Fact Term → Type 0
IsVain relations atom =
    (row : List ℕ) → Contains (rows_in (map (λ (stored : StoredRows). stored.rows) relations) atom.relation) row → length row ≢ length atom.terms

-- The answer tells that the atom is over the relations, or that it is in vain.
abbrev pub TellsOver : List StoredRows → Fact Term → Bool → Type 0
TellsOver relations atom true = IsOver relations atom
TellsOver relations atom false = IsVain relations atom

-- The answer tells that each of the atoms is over the relations, or that one of them is in vain.
abbrev pub TellsAllOver : List StoredRows → List (Fact Term) → Bool → Type 0
TellsAllOver relations atoms true = (atom : Fact Term) → Contains atoms atom → IsOver relations atom
TellsAllOver relations atoms false = (atom : Fact Term) × Contains atoms atom × IsVain relations atom
