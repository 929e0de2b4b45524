use Rattle.std.proofs.Common.{map}
use Rattle.esto_columns.specs.declared.stored.StoredRows.{StoredRows}
use Rattle.esto_coded.specs.Parted.{ArePartBelow}
use Rattle.esto_coded.proofs.parted.part_of.Given as goal

-- the facts are those of the relations so far
abbrev pub invariant-relations : goal.invariant-relations
invariant-relations l = ArePartBelow l.codes (map (λ (stored : StoredRows). stored.rows) l.relations) l.atoms l.set l.number l.facts
