use Rattle.std.proofs.Common.{ℕ, ◌<◌, ◌≤◌}
use Rattle.esto_bits.specs.Words.{IsWordAround}
use Rattle.esto_bits.proofs.lanes.rest_has_around.Given as goal

-- none of the words so far is around the word
abbrev pub invariant-words : goal.invariant-words
invariant-words l = (earlier : ℕ) → l.from ≤ earlier → earlier < l.place → ¬ (IsWordAround l.words l.word earlier)
