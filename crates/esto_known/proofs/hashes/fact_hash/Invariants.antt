use Rattle.std.proofs.Common.{◌≡◌, map, drop}
use Rattle.esto_columns.specs.Indexed.{hash_from}
use Rattle.esto_known.specs.Hashes.{term_hash, fact_hash}
use Rattle.esto_known.proofs.hashes.fact_hash.Given as goal

-- the hash so far, with the terms that are left, is that of all
abbrev pub invariant-terms : goal.invariant-terms
invariant-terms l = fact_hash l.fact ≡ hash_from l.hash (map term_hash (drop l.term-index l.term-items))
