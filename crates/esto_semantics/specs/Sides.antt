-- The kinds of query that a containment may compare: over the datasets, or over fragments, and unions of these.
use Rattle.std.specs.Prelude.{List}
use Rattle.esto_semantics.specs.Facts.{Database}
use Rattle.esto_semantics.specs.Queries.{ConjunctiveQuery, IsAnswer}
use Rattle.esto_semantics.specs.Unions.{IsUnionAnswer, IsUnionFragmentAnswer}
use Rattle.esto_semantics.specs.Views.{IsFragmentAnswer}
use Rattle.esto_semantics.specs.declared.fact.Value.{Value}

-- A side of a containment is a query over the datasets, a query over the fragments of some views, or a union of such queries.
pub data Side : Type 0 where
  over_datasets : (query : ConjunctiveQuery) → Side
  over_fragments : (views : List ConjunctiveQuery) → (query : ConjunctiveQuery) → Side
  union_over_datasets : (queries : List ConjunctiveQuery) → Side
  union_over_fragments : (views queries : List ConjunctiveQuery) → Side

-- The row is an answer of the side at the database.
abbrev pub IsAnswerOf : Side → Database → List Value → Type 0
IsAnswerOf (over_datasets query) database row = IsAnswer query database row
IsAnswerOf (over_fragments views query) database row = IsFragmentAnswer views query database row
IsAnswerOf (union_over_datasets queries) database row = IsUnionAnswer queries database row
IsAnswerOf (union_over_fragments views queries) database row = IsUnionFragmentAnswer views queries database row
