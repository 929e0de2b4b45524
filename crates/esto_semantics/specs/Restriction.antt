-- Databases over a schema: what a database has over it, and containment and satisfiability over well-formed databases alone.
use Rattle.std.specs.Prelude.{◌==◌, ℕ, Bool, false, Option, Some, None, List, length, filter, slice_get, Contains, IsUtf8}
use Rattle.esto_term.specs.declared.term.Term.TheVariants.{Const}
use Rattle.esto_semantics.specs.Facts.{Database}
use Rattle.esto_semantics.specs.Queries.{ConjunctiveQuery, IsAnswer}
use Rattle.esto_semantics.specs.Rules.{Rule, Meets}
use Rattle.esto_semantics.specs.Sides.{Side, over_datasets, over_fragments, union_over_datasets, union_over_fragments}
use Rattle.esto_semantics.specs.WellFormed.{HaveUtf8, IsWellFormed, IsQueryOver, IsRuleOver}
use Rattle.esto_semantics.specs.declared.fact.Fact.{Fact}
use Rattle.esto_semantics.specs.declared.fact.Value.{Value}

-- Some relation has so many columns.
abbrev pub has_columns : Option ℕ → ℕ → Bool
has_columns (Some columns) count = columns == count
has_columns None count = false

-- The fact is over the schema: it has as many values as its relation has columns.
abbrev pub is_over : List ℕ → Fact Value → Bool
is_over schema fact = has_columns (slice_get schema fact.relation) (length fact.terms)

-- The facts of the database that are over the schema.
abbrev pub over_schema : List ℕ → Database → Database
over_schema schema database = filter (is_over schema) database

-- Each of the rules is over the schema, and its constants are UTF-8.
abbrev pub AreRulesOver : List ℕ → List Rule → Type 0
AreRulesOver schema rules = (rule : Rule) → Contains rules rule → IsRuleOver schema rule

-- The constants of the query are UTF-8.
pub record HasUtf8 (query : ConjunctiveQuery) : Type 0 where
  pub body_texts : HaveUtf8 query.body
  pub head_texts : (text : List ℕ) → Contains query.head (Const text) → IsUtf8 text

-- Each of the queries is over the schema, and its constants are UTF-8.
abbrev pub AreQueriesOver : List ℕ → List ConjunctiveQuery → Type 0
AreQueriesOver schema queries = (query : ConjunctiveQuery) → Contains queries query → IsQueryOver schema query

-- The side is over the schema: its queries over the datasets, or each of its views; and its constants are UTF-8.
abbrev pub IsSideOver : List ℕ → Side → Type 0
IsSideOver schema (over_datasets query) = IsQueryOver schema query
IsSideOver schema (over_fragments views query) = AreQueriesOver schema views × HasUtf8 query
IsSideOver schema (union_over_datasets queries) = AreQueriesOver schema queries
IsSideOver schema (union_over_fragments views queries) =
    AreQueriesOver schema views × ((query : ConjunctiveQuery) → Contains queries query → HasUtf8 query)

-- Over every well-formed database that meets the rules, each answer of the left is one of the right.
abbrev pub IsContainedOver : List ℕ → List Rule → (Database → List Value → Type 0) → (Database → List Value → Type 0) → Type 0
IsContainedOver schema rules left right =
    (database : Database) → IsWellFormed schema database → Meets rules database → (row : List Value) → left database row → right database row

-- Some well-formed database that meets the rules gives the query an answer.
abbrev pub IsSatisfiableOver : List ℕ → List Rule → ConjunctiveQuery → Type 0
IsSatisfiableOver schema rules query =
    (database : Database) × IsWellFormed schema database × Meets rules database × ((row : List Value) × IsAnswer query database row)
