-- Queries that are the same.
use Rattle.std.specs.Prelude.{◌≡◌, List, [], ◌∷◌}
use Rattle.esto_query.specs.declared.query.Query.{Query}

-- Two queries with one head, one body and the same names.
pub record IsSameQuery (query other : Query) : Type 0 where
  pub head : query.head ≡ other.head
  pub body : query.body ≡ other.body
  pub names : query.names ≡ other.names

-- Two lists have the same queries, one by one.
abbrev pub AreSameQueries : List Query → List Query → Type 0
AreSameQueries [] [] = Unit {0}
AreSameQueries (query ∷ queries) (other ∷ others) = IsSameQuery query other × AreSameQueries queries others
AreSameQueries _ _ = ⊥
