use Rattle.std.proofs.Common.{◌≡◌, length}
use Rattle.esto_backchase.proofs.VisitLemmas.{IsFilledBelow}
use Rattle.esto_backchase.proofs.search.with_range.Given as goal

-- the set so far has the set's own numbers, and those of the range so far
abbrev pub invariant-numbers : goal.invariant-numbers
invariant-numbers l = record {
  count : length l.more ≡ length l.set;
  filled : IsFilledBelow l.set l.from l.to l.number l.more;
}
