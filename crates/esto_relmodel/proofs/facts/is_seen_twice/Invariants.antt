use Rattle.std.proofs.Common.{◌≡◌, take}
use Rattle.esto_relmodel.specs.Once.{AreEachOnce}
use Rattle.esto_relmodel.proofs.facts.is_seen_twice.Given as goal

-- the rows that were seen are the rows so far, each once
abbrev pub invariant-rows : goal.invariant-rows
invariant-rows l = (l.seen ≡ take l.row-index l.rows) × AreEachOnce (take l.row-index l.rows) l.seen
