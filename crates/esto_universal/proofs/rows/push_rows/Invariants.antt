use Rattle.std.proofs.Common.{◌≡◌, ◌++◌, map, take}
use Rattle.esto_universal.specs.Rows.{over}
use Rattle.esto_universal.proofs.rows.push_rows.Given as goal

abbrev pub invariant-rows : goal.invariant-rows
invariant-rows l = l.facts ≡ l.initial.facts ++ map (over l.number) (take l.row-index l.rows)
