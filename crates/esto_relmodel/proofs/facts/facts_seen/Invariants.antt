use Rattle.std.proofs.Common.{◌≡◌, map, take}
use Rattle.esto_relmodel.specs.Once.{AreEachOnce}
use Rattle.esto_relmodel.specs.RowFacts.{row_fact}
use Rattle.esto_relmodel.proofs.facts.facts_seen.Given as goal

-- the facts are those of the rows so far, each once
abbrev pub invariant-rows : goal.invariant-rows
invariant-rows l = (l.facts ≡ map (row_fact l.relation) l.seen) × AreEachOnce (take l.row-index l.rows) l.seen
