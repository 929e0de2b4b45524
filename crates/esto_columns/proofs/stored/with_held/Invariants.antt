use Rattle.std.proofs.Common.{◌≡◌, take}
use Rattle.std.specs.List.{filter}
use Rattle.esto_columns.specs.Asked.{holds_all}
use Rattle.esto_columns.specs.Picked.{rows_at}
use Rattle.esto_columns.proofs.stored.with_held.Given as goal

abbrev pub invariant-places : goal.invariant-places
invariant-places l = l.held ≡ record { arity = l.rows.arity; rows = filter (holds_all l.inputs) (rows_at l.rows.rows (take l.place-index l.places)) }
