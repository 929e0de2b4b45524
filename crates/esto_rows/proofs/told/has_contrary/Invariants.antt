use Rattle.std.proofs.Common.{length, take}
use Rattle.esto_rows.proofs.ToldLemmas.{Walked}
use Rattle.esto_rows.proofs.told.has_contrary.Given as goal

abbrev pub invariant-places : goal.invariant-places
invariant-places l = Walked (take l.at l.rows.rows) l.row (length l.index.last) l.next

abbrev pub decreases-places : goal.decreases-places
decreases-places l = l.next
