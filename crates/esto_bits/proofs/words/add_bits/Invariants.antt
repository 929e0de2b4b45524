use Rattle.std.proofs.Common.{◌≡◌, ℕ, ◌<◌, ◌≤◌, length, slice_index_or, bit_or}
use Rattle.esto_bits.proofs.words.add_bits.Given as goal

-- the words so far have the bits of both, and the later ones are as they were
abbrev pub invariant-words : goal.invariant-words
invariant-words l = record {
  many : length l.words.items ≡ length l.initial.words.items;
  joined : (earlier : ℕ) → earlier < l.place
      → slice_index_or l.words.items earlier 0 ≡ bit_or (slice_index_or l.initial.words.items earlier 0) (slice_index_or l.other earlier 0);
  left : (later : ℕ) → l.place ≤ later → slice_index_or l.words.items later 0 ≡ slice_index_or l.initial.words.items later 0;
}
