use Rattle.std.proofs.Common.{◌≡◌, take}
use Rattle.esto_rows.proofs.same.stand_alike.Given as goal

abbrev pub invariant-rows : goal.invariant-rows
invariant-rows l = take l.at l.one.rows ≡ take l.at l.other.rows
