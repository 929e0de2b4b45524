-- Unions of queries.
use Rattle.std.specs.Prelude.{◌≡◌, ◌<◌, List, length, Contains}
use Rattle.esto_query.specs.declared.query.Query.{Query}

-- The heads of the queries are of one length.
abbrev pub HaveOneHeadLength : List Query → Type 0
HaveOneHeadLength queries = (query other : Query) → Contains queries query → Contains queries other → length query.head ≡ length other.head

-- At least one query, and all heads of one length.
pub record FormUnion (queries : List Query) : Type 0 where
  pub some : 0 < length queries
  pub lengths : HaveOneHeadLength queries
