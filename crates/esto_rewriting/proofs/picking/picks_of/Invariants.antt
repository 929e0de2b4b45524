use Rattle.std.proofs.Common.{take}
use Rattle.esto_rewriting.specs.Picking.{ArePicksOf}
use Rattle.esto_rewriting.proofs.picking.picks_of.Given as goal

abbrev pub invariant-members : goal.invariant-members
invariant-members l = ArePicksOf l.number (take l.member-index l.members) l.picks
