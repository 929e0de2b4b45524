use Rattle.std.proofs.Common.{◌≡◌, map, drop}
use Rattle.esto_table.specs.Hashes.{hash_from, term_hash}
use Rattle.esto_table.proofs.hash.+term_hash.Given as goal

-- the hash so far, with what is left of the frontier taken into it, is that with the whole frontier
abbrev pub invariant-frontier : goal.invariant-frontier
invariant-frontier l = hash_from l.initial.hash (map term_hash l.part-items) ≡ hash_from l.hash (map term_hash (drop l.part-index l.part-items))
