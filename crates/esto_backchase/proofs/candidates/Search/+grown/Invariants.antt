use Rattle.std.proofs.Common.{◌-◌}
use Rattle.esto_backchase.proofs.candidates.Search.+grown.Given as goal

abbrev pub decreases-grown : goal.decreases-grown
decreases-grown l = l.to - l.from
