use Rattle.std.proofs.Common.{◌≡◌, length}
use Rattle.esto_access.proofs.NeedLemmas.{AreGivenBelow}
use Rattle.esto_access.proofs.needs.givers.Given as goal

abbrev pub invariant-atoms : goal.invariant-atoms
invariant-atoms l = (l.found.count ≡ length l.plan.atoms) × AreGivenBelow l.plan.atoms l.supplies l.term l.number l.found.sets
