use Rattle.std.proofs.Common.{◌-◌, length}
use Rattle.esto_read.proofs.PatternLemmas.{HiddenSoFar}
use Rattle.esto_read.proofs.pattern.hide.Given as goal

abbrev pub invariant-names : goal.invariant-names
invariant-names l = HiddenSoFar l.initial.names l.count l.names

abbrev pub decreases-names : goal.decreases-names
decreases-names l = l.count - length l.names
