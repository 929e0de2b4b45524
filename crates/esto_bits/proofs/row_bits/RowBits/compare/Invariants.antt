use Rattle.std.proofs.Common.{◌≡◌, length}
use Rattle.std.specs.Cmp.Lexicographic.{slice_cmp}
use Rattle.std.specs.Ordering.{nat_cmp}
use Rattle.esto_term.specs.Sets.{set_cmp}
use Rattle.esto_bits.proofs.NumberLemmas.{later_numbers}
use Rattle.esto_bits.proofs.row_bits.RowBits.compare.Given as goal

-- equally many numbers are still to come, and they decide
abbrev pub invariant-numbers : goal.invariant-numbers
invariant-numbers l = record {
  sizes : length (later_numbers l.number l.self) ≡ length (later_numbers l.number l.other);
  decide : slice_cmp nat_cmp (later_numbers l.number l.self) (later_numbers l.number l.other) ≡ set_cmp l.self l.other;
}
