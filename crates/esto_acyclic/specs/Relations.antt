-- The names of relations.
use Rattle.std.specs.Prelude.{◌≡◌, ℕ, List, Some, map, slice_get}
use Rattle.esto_query.specs.Schemas.{names_of}
use Rattle.esto_query.specs.declared.schema.Relation.{Relation}

-- They are the schema's names of the relations, in order.
abbrev pub AreNamesOf : List Relation → List ℕ → List (List ℕ) → Type 0
AreNamesOf schema relations names = map Some names ≡ map (slice_get (names_of schema)) relations
