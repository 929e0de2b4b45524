use Rattle.std.proofs.Common.{◌≡◌, ◌↔◌, ◌⊎◌, ℕ, length, take, Contains}
use Rattle.esto_term.specs.Sets.{Has}
use Rattle.esto_bits.proofs.row_bits.RowBits.insert_all.Given as goal

-- the set has the numbers so far and those that it had
abbrev pub invariant-numbers : goal.invariant-numbers
invariant-numbers l = record {
  count : length l.self ≡ length l.initial.self;
  has : (number : ℕ) → Has l.self number ↔ (Contains (take l.number-index l.numbers) number ⊎ Has l.initial.self number);
}
