use Rattle.std.proofs.Common.{◌≡◌, drop}
use Rattle.esto_columns.specs.Indexed.{hash_from}
use Rattle.esto_known.proofs.hashes.text_hash.Given as goal

abbrev pub invariant-bytes : goal.invariant-bytes
invariant-bytes l = hash_from 0 l.text ≡ hash_from l.hash (drop l.byte-index l.text)
