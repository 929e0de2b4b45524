use Rattle.std.proofs.Common.{length}
use Rattle.esto_columns.specs.Indexed.{IsIndexOf}
use Rattle.esto_columns.proofs.FindLemmas.{Sought}
use Rattle.esto_columns.proofs.rows.Rows.find.Given as goal

abbrev pub invariant-places : goal.invariant-places
invariant-places l = IsIndexOf l.index l.self.rows → Sought l.self.rows l.row (length l.index.last) l.next

abbrev pub decreases-places : goal.decreases-places
decreases-places l = l.next
