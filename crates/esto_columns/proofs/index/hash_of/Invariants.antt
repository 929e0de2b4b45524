use Rattle.std.proofs.Common.{◌≡◌, drop}
use Rattle.esto_columns.specs.Indexed.{hash_from}
use Rattle.esto_columns.proofs.index.hash_of.Given as goal

abbrev pub invariant-codes : goal.invariant-codes
invariant-codes l = hash_from 0 l.key ≡ hash_from l.hash (drop l.code-index l.key)
