use Rattle.std.proofs.Common.{◌≡◌, get_or, map, take}
use Rattle.esto_columns.proofs.column.narrow_at.Given as goal

abbrev pub invariant-places : goal.invariant-places
invariant-places l = l.narrow ≡ map (λ place. get_or l.codes place 0) (take l.place-index l.places)
