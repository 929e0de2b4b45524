use Rattle.std.proofs.Common.{ℕ, ◌<◌, ◌≤◌}
use Rattle.esto_bits.specs.Words.{LacksNone}
use Rattle.esto_bits.proofs.lanes.rest_within.Given as goal

-- none of the words so far has a bit that the other's word lacks
abbrev pub invariant-words : goal.invariant-words
invariant-words l = (earlier : ℕ) → l.from ≤ earlier → earlier < l.place → LacksNone l.small l.large earlier
