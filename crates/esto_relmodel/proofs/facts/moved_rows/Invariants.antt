use Rattle.std.proofs.Common.{◌≡◌, map}
use Rattle.esto_relmodel.specs.RowFacts.{row_fact}
use Rattle.esto_relmodel.proofs.facts.moved_rows.Given as goal

-- the facts are those of the rows so far
abbrev pub invariant-rows : goal.invariant-rows
invariant-rows l = l.facts ≡ map (row_fact l.relation) l.yielded
