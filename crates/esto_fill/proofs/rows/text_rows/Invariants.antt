use Rattle.std.proofs.Common.{◌≡◌, ◌++◌, map, drop}
use Rattle.esto_fill.specs.Placing.{text_of}
use Rattle.esto_fill.proofs.rows.text_rows.Given as goal

-- the texts so far, with those of the rows that are left, are all of them
abbrev pub invariant-rows : goal.invariant-rows
invariant-rows l = l.texts ++ map (map text_of) (drop l.row-index l.rows) ≡ map (map text_of) l.rows
