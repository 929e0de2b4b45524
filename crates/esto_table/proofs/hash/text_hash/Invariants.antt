use Rattle.std.proofs.Common.{◌≡◌, drop}
use Rattle.esto_table.specs.Hashes.{hash_from}
use Rattle.esto_table.proofs.hash.text_hash.Given as goal

abbrev pub invariant-bytes : goal.invariant-bytes
invariant-bytes l = hash_from 1 l.text ≡ hash_from l.hash (drop l.byte-index l.text)
