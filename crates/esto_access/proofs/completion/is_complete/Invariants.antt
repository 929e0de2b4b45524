use Rattle.std.proofs.Common.{ℕ, ◌<◌}
use Rattle.esto_term.specs.Sets.{Has}
use Rattle.esto_access.specs.Supplies.{IsSupplied}
use Rattle.esto_access.proofs.completion.is_complete.Given as goal

-- the numbers so far are supplied
abbrev pub invariant-numbers : goal.invariant-numbers
invariant-numbers l = (number : ℕ) → number < l.number → Has l.low number → IsSupplied l.supplies l.low number
