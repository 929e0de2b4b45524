-- The plan of a universal instance: the rows of all views over its facts.
use Rattle.std.specs.Prelude.{◌≡◌, ◌⊎◌, List, Some, map, slice_get, Contains}
use Rattle.esto_term.specs.declared.term.Term.{Term}
use Rattle.esto_term.specs.declared.term.Term.TheVariants.{Const}
use Rattle.esto_semantics.specs.Facts.{image}
use Rattle.esto_semantics.specs.Maps.{Keeps}
use Rattle.esto_semantics.specs.Queries.{ConjunctiveQuery, IsAnswerInto}
use Rattle.esto_semantics.specs.declared.fact.Fact.{Fact}

-- The atom over fragments is a row over the facts, read over terms: its terms are an answer of its fragment's view.
abbrev pub IsTermRow : List ConjunctiveQuery → List (Fact Term) → Fact Term → Type 0
IsTermRow views facts row =
    (view : ConjunctiveQuery) × (slice_get views row.relation ≡ Some view) × IsAnswerInto Const view (Contains facts) row.terms

-- The term stands in a row of a view over the end's facts, or in the end's head.
abbrev pub IsOfRows : List ConjunctiveQuery → ConjunctiveQuery → Term → Type 0
IsOfRows views end term =
    ((row : Fact Term) × IsTermRow views end.body row × Contains row.terms term) ⊎ Contains end.head term

-- The plan is the end's: its atoms are exactly the rows of all views over the end's facts, and its head is the end's head, all under one renaming of terms. The
-- renaming keeps constants, and another map that keeps constants undoes it on the terms of the rows and of the head.
pub record IsPlanOf (views : List ConjunctiveQuery) (end plan : ConjunctiveQuery) : Type 0 where
  pub renaming : Term → Term
  pub back : Term → Term
  pub keeps : Keeps Const renaming
  pub back_keeps : Keeps Const back
  pub undone : (term : Term) → IsOfRows views end term → back (renaming term) ≡ term
  pub rows : (row : Fact Term) → IsTermRow views end.body row → Contains plan.body (image renaming row)
  pub only_rows : (atom : Fact Term) → Contains plan.body atom
      → (row : Fact Term) × IsTermRow views end.body row × (image renaming row ≡ atom)
  pub head : plan.head ≡ map renaming end.head
