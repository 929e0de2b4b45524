-- The rows of all views over facts.
use Rattle.std.specs.Prelude.{◌≡◌, ◌⊎◌, ◌↔◌, ℕ, ◌<◌, List, Contains, AllPairs}
use Rattle.std.specs.Cmp.Lexicographic.{slice_cmp}
use Rattle.std.specs.declared.cmp.Ordering.TheVariants.{Less}
use Rattle.esto_term.specs.Order.{term_cmp}
use Rattle.esto_term.specs.declared.term.Term.{Term}
use Rattle.esto_term.specs.declared.term.Term.TheVariants.{Const}
use Rattle.esto_semantics.specs.PlanOf.{IsTermRow}
use Rattle.esto_semantics.specs.Queries.{ConjunctiveQuery, IsAnswerInto}
use Rattle.esto_semantics.specs.declared.fact.Fact.{Fact}
use Rattle.esto_query.specs.Rows.{IsAscending}

-- The row as one of the fragment of that number.
abbrev pub over : ℕ → List Term → Fact Term
over number row = record { relation = number; terms = row }

-- These are exactly the rows of one view over the facts, each once, in the order of terms.
pub record AreRowsOf (view : ConjunctiveQuery) (facts : List (Fact Term)) (rows : List (List Term)) : Type 0 where
  pub exact : (row : List Term) → Contains rows row ↔ IsAnswerInto Const view (Contains facts) row
  pub ordered : IsAscending rows

-- The one row over fragments comes before the other: its fragment does, or it is of the same fragment and comes before it in the order of terms.
abbrev pub IsRowBefore : Fact Term → Fact Term → Type 0
IsRowBefore row other =
    (row.relation < other.relation) ⊎ ((row.relation ≡ other.relation) × (slice_cmp term_cmp row.terms other.terms ≡ Less))

-- These are exactly the rows of all views over the facts, each once, by fragment and then in the order of terms.
pub record AreRows (views : List ConjunctiveQuery) (facts rows : List (Fact Term)) : Type 0 where
  pub exact : (row : Fact Term) → Contains rows row ↔ IsTermRow views facts row
  pub ordered : AllPairs IsRowBefore rows
