use Rattle.std.proofs.Common.{◌≡◌, ◌≤◌, ◌+◌, ◌-◌, ◌++◌, take, vec_len, vec_capacity}
use Rattle.esto_columns.specs.Picked.{places_of}
use Rattle.esto_columns.proofs.picks.select.Given as goal

abbrev pub invariant-blocks-2 : goal.invariant-blocks-2
invariant-blocks-2 l = record {
  inside : l.at ≤ l.count;
  items : l.into-inside.places.items ≡ l.initial.into-inside.places.items ++ places_of 0 l.code (take l.at l.column);
  len : vec_len l.into-inside.places ≤ vec_len l.initial.into-inside.places + l.at;
  capacity : vec_capacity l.into-inside.places ≡ vec_capacity l.initial.into-inside.places;
}

abbrev pub decreases-blocks-2 : goal.decreases-blocks-2
decreases-blocks-2 l = l.count - l.at
