use Rattle.std.proofs.Common.{length}
use Rattle.esto_text.proofs.ItemLemmas.{ItemsSoFar}
use Rattle.esto_text.proofs.reader.items.Given as goal

abbrev pub invariant-items : goal.invariant-items
invariant-items l = ItemsSoFar l.tokens l.items l.rest

abbrev pub decreases-items : goal.decreases-items
decreases-items l = length l.rest
