use Rattle.std.proofs.Common.{◌≡◌, ◌++◌}
use Rattle.esto_term.specs.Sets.{numbers}
use Rattle.esto_bits.proofs.NumberLemmas.{later_numbers}
use Rattle.esto_bits.proofs.row_bits.RowBits.numbers.Given as goal

-- the numbers so far and those still to come are all of the set's
abbrev pub invariant-numbers : goal.invariant-numbers
invariant-numbers l = l.numbers ++ later_numbers l.number l.self ≡ numbers l.self
