use Rattle.std.proofs.Common.{ℕ, ◌<◌, ◌+◌, ◌*◌, slice_range}
use Rattle.esto_bits.specs.Words.{LackNoBit}
use Rattle.esto_bits.proofs.lanes.any_around.Given as goal

-- the row is within no group so far
abbrev pub invariant-groups : goal.invariant-groups
invariant-groups l = (earlier : ℕ) → earlier < l.group
    → ¬ (LackNoBit l.row (slice_range l.rows (earlier * l.width) (earlier * l.width + l.width)))
