use Rattle.std.proofs.Common.{take}
use Rattle.esto_known.specs.Groups.{AreGroups}
use Rattle.esto_known.proofs.groups.Groups.take_all.Given as goal

-- the groups are those of the entries so far
abbrev pub invariant-entries : goal.invariant-entries
invariant-entries l = AreGroups (take l.place l.entries) l.self
