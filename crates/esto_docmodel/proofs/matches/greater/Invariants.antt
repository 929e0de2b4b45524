use Rattle.std.proofs.Common.{ℕ, ◌<◌, take, Contains}
use Rattle.esto_docmodel.proofs.matches.greater.Given as goal

abbrev pub invariant-numbers : goal.invariant-numbers
invariant-numbers l = (n : ℕ) → Contains (take l.number-index l.numbers) n → n < l.bound
