use Rattle.std.proofs.Common.{◌≡◌, ◌≤◌, ◌+◌, ◌++◌, slice_range, vec_len, vec_capacity}
use Rattle.esto_columns.specs.Picked.{places_of}
use Rattle.esto_columns.proofs.picks.push_places.Given as goal

abbrev pub invariant-places : goal.invariant-places
invariant-places l =
    (l.places.items ≡ l.initial.places.items ++ places_of l.from l.code (slice_range l.column l.from l.at))
    × (vec_len l.places + l.from ≤ vec_len l.initial.places + l.at) × (vec_capacity l.places ≡ vec_capacity l.initial.places)
