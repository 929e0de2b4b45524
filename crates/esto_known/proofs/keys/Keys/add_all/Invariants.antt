use Rattle.std.proofs.Common.{take}
use Rattle.esto_known.specs.Indexes.{AreKeysOf}
use Rattle.esto_known.specs.Groups.{claims_of}
use Rattle.esto_known.proofs.keys.Keys.add_all.Given as goal

-- the indexes are those of the claims so far
abbrev pub invariant-groups : goal.invariant-groups
invariant-groups l = AreKeysOf l.self (claims_of (take l.group-index l.groups))
