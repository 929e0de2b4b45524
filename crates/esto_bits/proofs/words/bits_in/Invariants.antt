use Rattle.std.proofs.Common.{◌≡◌, min, take, count_ones, sum_by}
use Rattle.esto_bits.proofs.words.bits_in.Given as goal

-- the bits of the words so far
abbrev pub invariant-words : goal.invariant-words
invariant-words l = l.bits ≡ min (sum_by count_ones (take l.word-index l.words)) 18446744073709551615
