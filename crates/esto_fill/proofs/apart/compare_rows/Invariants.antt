use Rattle.std.proofs.Common.{◌≡◌, ◌≤◌, drop, length}
use Rattle.std.specs.Cmp.Lexicographic.{slice_cmp}
use Rattle.std.specs.Ordering.{nat_cmp}
use Rattle.esto_fill.proofs.apart.compare_rows.Given as goal

-- the walk is not past the other row, and the rests compare as the whole rows do
abbrev pub invariant-texts : goal.invariant-texts
invariant-texts l = record {
  within : l.place ≤ length l.other;
  rests : slice_cmp (slice_cmp nat_cmp) (drop l.place l.row) (drop l.place l.other) ≡ slice_cmp (slice_cmp nat_cmp) l.row l.other;
}
