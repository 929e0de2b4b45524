use Rattle.std.proofs.Common.{◌≡◌, length}
use Rattle.esto_condchase.specs.Evidence.{MatchesIn}
use Rattle.esto_query.specs.declared.query.Query.{Query}
use Rattle.esto_condchase.proofs.MatchingLemmas.{AreFoundBelow}
use Rattle.esto_condchase.proofs.evidence.matching_products.Given as goal

-- the products of the queries so far are found
abbrev pub invariant-queries : goal.invariant-queries
invariant-queries l =
    (l.found.count ≡ length l.plan.atoms)
    × AreFoundBelow (λ (query : Query) set. MatchesIn query l.plan l.entries set) l.queries l.query-index l.found.sets
