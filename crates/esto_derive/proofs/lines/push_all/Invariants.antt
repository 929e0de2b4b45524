use Rattle.std.proofs.Common.{◌≡◌, ◌++◌, drop}
use Rattle.esto_derive.proofs.lines.push_all.Given as goal

abbrev pub invariant-more : goal.invariant-more
invariant-more l = l.numbers ++ drop l.number-index l.more ≡ l.fn.numbers ++ l.more
