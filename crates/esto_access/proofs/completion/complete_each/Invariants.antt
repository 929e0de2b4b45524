use Rattle.std.proofs.Common.{◌≡◌}
use Rattle.esto_access.proofs.CompleteLemmas.{AreAllCompletedBelow}
use Rattle.esto_access.proofs.completion.complete_each.Given as goal

-- the sets so far are completed
abbrev pub invariant-sets : goal.invariant-sets
invariant-sets l = (l.found.count ≡ l.products.count) × AreAllCompletedBelow l.supplies l.products.sets l.at l.found.sets
