use Rattle.std.proofs.Common.{map, take}
use Rattle.esto_run.specs.Picks.{candidate_of}
use Rattle.esto_run.specs.Used.{AreUsedByAll}
use Rattle.esto_run.proofs.used.fragments_of_picks.Given as goal

abbrev pub invariant-picks : goal.invariant-picks
invariant-picks l = AreUsedByAll (map candidate_of (take l.pick-index l.picks)) l.fragments
