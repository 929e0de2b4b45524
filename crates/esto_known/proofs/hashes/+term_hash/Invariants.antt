use Rattle.std.proofs.Common.{◌≡◌, map, drop}
use Rattle.esto_columns.specs.Indexed.{hash_from}
use Rattle.esto_known.specs.Hashes.{term_hash}
use Rattle.esto_known.proofs.hashes.+term_hash.Given as goal

-- the hash so far, with the terms that are left, is that of all
abbrev pub invariant-frontier : goal.invariant-frontier
invariant-frontier l = term_hash l.term ≡ hash_from l.hash (map term_hash (drop l.part-index l.part-items))
