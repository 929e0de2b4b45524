use Rattle.std.proofs.Common.{ℕ, ◌<◌, ◌+◌, ◌*◌, slice_range}
use Rattle.esto_bits.specs.Words.{LackNoBit}
use Rattle.esto_bits.proofs.lanes.any_within.Given as goal

-- no group so far is within the row
abbrev pub invariant-groups : goal.invariant-groups
invariant-groups l = (earlier : ℕ) → earlier < l.group
    → ¬ (LackNoBit (slice_range l.rows (earlier * l.width) (earlier * l.width + l.width)) l.row)
