use Rattle.std.proofs.Common.{◌≡◌, length}
use Rattle.esto_access.proofs.CompleteLemmas.{AreCompletedBelow}
use Rattle.esto_access.proofs.completion.completions_of.Given as goal

-- the numbers so far are supplied
abbrev pub invariant-numbers : goal.invariant-numbers
invariant-numbers l = (l.found.count ≡ length l.low) × AreCompletedBelow l.supplies l.low l.number l.found.sets
