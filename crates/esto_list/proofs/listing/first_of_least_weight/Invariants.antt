use Rattle.std.proofs.Common.{ℕ, ◌<◌, ◌≤◌, length, slice_index_or}
use Rattle.esto_list.specs.Items.{totals_of}
use Rattle.esto_list.proofs.listing.first_of_least_weight.Given as goal

-- the pick among the items so far
abbrev pub invariant-items : goal.invariant-items
invariant-items l = record {
  there : l.pick < length l.items;
  least : (other : ℕ) → other < l.place → slice_index_or (totals_of l.items) l.pick 0 ≤ slice_index_or (totals_of l.items) other 0;
  first : (other : ℕ) → other < l.pick → slice_index_or (totals_of l.items) l.pick 0 < slice_index_or (totals_of l.items) other 0;
}
