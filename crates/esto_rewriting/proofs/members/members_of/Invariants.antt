use Rattle.std.proofs.Common.{take}
use Rattle.std.specs.List.{AllZip}
use Rattle.esto_rewriting.specs.Members.{IsMemberOf}
use Rattle.esto_rewriting.proofs.members.members_of.Given as goal

abbrev pub invariant-queries : goal.invariant-queries
invariant-queries l = AllZip (IsMemberOf l.catalogue l.queries) (take l.query-index l.queries) l.members
