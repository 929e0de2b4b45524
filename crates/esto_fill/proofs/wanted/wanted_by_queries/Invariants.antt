use Rattle.std.proofs.Common.{◌≡◌, ◌++◌, drop, map}
use Rattle.esto_query.specs.Making.{query_of}
use Rattle.esto_fill.proofs.wanted.wanted_by_queries.Given as goal

-- the bodies so far, with those of the queries that are left, are all of them
abbrev pub invariant-queries : goal.invariant-queries
invariant-queries l =
    l.bodies ++ map (λ query. (query_of query).body) (drop l.query-index l.queries) ≡ map (λ query. (query_of query).body) l.queries
