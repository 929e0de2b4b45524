use Rattle.std.proofs.Common.{◌≡◌, map, take}
use Rattle.esto_rows.specs.Wanted.{Know}
use Rattle.esto_rows.proofs.wanted.note_fronts.Given as goal

-- the keys are those of the rows so far
abbrev pub invariant-rows : goal.invariant-rows
invariant-rows l = (l.keys.keys.arity ≡ l.initial.keys.keys.arity) × Know l.keys (map (take l.width) (take l.at l.rows.rows))
