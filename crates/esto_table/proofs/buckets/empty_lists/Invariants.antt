use Rattle.std.proofs.Common.{◌≡◌, [], replicate}
use Rattle.esto_table.proofs.buckets.empty_lists.Given as goal

abbrev pub invariant-lists : goal.invariant-lists
invariant-lists l = l.lists.items ≡ replicate l._list []
