use Rattle.std.proofs.Common.{take}
use Rattle.esto_data.proofs.CodedRowLemmas.{UnionSoFar}
use Rattle.esto_data.proofs.coded_answering.union_rows.Given as goal

-- the rows are the answers of the queries so far
abbrev pub invariant-queries : goal.invariant-queries
invariant-queries l = UnionSoFar l.initial.coded l.coded l.width l.rows (take l.query-index l.queries)
