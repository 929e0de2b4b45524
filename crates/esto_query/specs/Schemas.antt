-- Schemas: which relations there are.
use Rattle.std.specs.Prelude.{◌≡◌, ◌≢◌, ℕ, ◌<◌, ◌≤◌, List, length, map, Contains, All, AllPairs, Result, Ok, Err}
use Rattle.esto_query.specs.declared.schema.TheConstants.{MAX_COLUMNS, MAX_RELATIONS}
use Rattle.esto_query.specs.declared.schema.Relation.{Relation}
use Rattle.esto_query.specs.declared.schema.SchemaError.{SchemaError}
use Rattle.esto_query.specs.declared.schema.SchemaError.TheVariants.{SameName, BadArity, TooMany, OutOfMemory}

-- The names of the relations, in order.
abbrev pub names_of : List Relation → List (List ℕ)
names_of schema = map (λ relation. relation.name) schema

-- Their numbers of columns, in order.
abbrev pub arities_of : List Relation → List ℕ
arities_of schema = map (λ relation. relation.arity) schema

-- A relation has 1 to 32 columns.
abbrev pub IsArity : ℕ → Type 0
IsArity arity = (0 < arity) × (arity ≤ MAX_COLUMNS)

-- A schema has at most 1,280 relations, no two of one name, each with 1 to 32 columns.
pub record IsSchema (schema : List Relation) : Type 0 where
  pub distinct : AllPairs ◌≢◌ (names_of schema)
  pub arities : All IsArity (arities_of schema)
  pub room : length schema ≤ MAX_RELATIONS

-- What comes of adding a relation: its number, where the name is new, the number of columns is right and there is room; else the first of these that fails.
-- Only then may memory be wanting.
abbrev pub AddsRelation : List Relation → List ℕ → ℕ → Result ℕ SchemaError → Type 0
AddsRelation schema name arity (Ok relation) =
    ¬ (Contains (names_of schema) name) × IsArity arity × (length schema < MAX_RELATIONS) × (relation ≡ length schema)
AddsRelation schema name arity (Err SameName) = Contains (names_of schema) name
AddsRelation schema name arity (Err BadArity) = ¬ (Contains (names_of schema) name) × ¬ (IsArity arity)
AddsRelation schema name arity (Err TooMany) =
    ¬ (Contains (names_of schema) name) × IsArity arity × (MAX_RELATIONS ≤ length schema)
AddsRelation schema name arity (Err OutOfMemory) =
    ¬ (Contains (names_of schema) name) × IsArity arity × (length schema < MAX_RELATIONS)
