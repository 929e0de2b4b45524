use Rattle.std.proofs.Common.{ℕ, ◌<◌, Contains}
use Rattle.esto_term.specs.Sets.{Has}
use Rattle.esto_access.proofs.atoms.names_all.Given as goal

abbrev pub invariant-numbers : goal.invariant-numbers
invariant-numbers l = (number : ℕ) → number < l.number → Has l.set number → Contains l.numbers number
