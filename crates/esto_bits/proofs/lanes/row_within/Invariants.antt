use Rattle.std.proofs.Common.{◌≤◌, ◌-◌, length}
use Rattle.esto_bits.proofs.LaneLemmas.{NoneBelow}
use Rattle.esto_bits.proofs.lanes.row_within.Given as goal

abbrev pub invariant-blocks-2 : goal.invariant-blocks-2
invariant-blocks-2 l = record {
  inside : l.at ≤ length l.small;
  so_far : NoneBelow l.small l.large l.at;
}

abbrev pub decreases-blocks-2 : goal.decreases-blocks-2
decreases-blocks-2 l = length l.small - l.at
