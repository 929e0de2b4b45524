use Rattle.std.proofs.Common.{length}
use Rattle.esto_text.proofs.UnionReading.{UnionSoFar}
use Rattle.esto_text.proofs.unions.put_queries.Given as goal

abbrev pub invariant-queries : goal.invariant-queries
invariant-queries l = UnionSoFar l.tokens l.queries l.rest

abbrev pub decreases-queries : goal.decreases-queries
decreases-queries l = length l.rest
