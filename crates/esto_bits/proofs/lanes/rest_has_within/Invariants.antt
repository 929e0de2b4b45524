use Rattle.std.proofs.Common.{ℕ, ◌<◌, ◌≤◌}
use Rattle.esto_bits.specs.Words.{IsWordWithin}
use Rattle.esto_bits.proofs.lanes.rest_has_within.Given as goal

-- none of the words so far is within the word
abbrev pub invariant-words : goal.invariant-words
invariant-words l = (earlier : ℕ) → l.from ≤ earlier → earlier < l.place → ¬ (IsWordWithin l.words l.word earlier)
