use Rattle.std.proofs.Common.{length, ◌-◌}
use Rattle.esto_text.proofs.Covering.{CoversSoFar}
use Rattle.esto_text.proofs.tokens.cut.Given as goal

abbrev pub invariant-places : goal.invariant-places
invariant-places l = CoversSoFar l.bytes l.tokens l.at

abbrev pub decreases-places : goal.decreases-places
decreases-places l = length l.bytes - l.at
