use Rattle.std.proofs.Common.{◌≡◌, ◌++◌, take}
use Rattle.esto_coded.specs.Parted.{kept_facts}
use Rattle.esto_coded.proofs.parted.put_rows.Given as goal

-- those of the rows so far have come
abbrev pub invariant-rows : goal.invariant-rows
invariant-rows l = l.facts ≡ l.initial.facts ++ kept_facts l.codes l.set l.number (take l.at l.rows.rows)
