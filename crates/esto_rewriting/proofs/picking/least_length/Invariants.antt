use Rattle.std.proofs.Common.{take}
use Rattle.esto_rewriting.specs.Picking.{IsLeast}
use Rattle.esto_rewriting.proofs.picking.least_length.Given as goal

abbrev pub invariant-members : goal.invariant-members
invariant-members l = IsLeast (take l.member-index l.members) l.least
