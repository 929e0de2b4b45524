use Rattle.std.proofs.Common.{◌≡◌}
use Rattle.esto_coded.proofs.indexes.index_atoms.Given as goal

abbrev pub invariant-atoms : goal.invariant-atoms
invariant-atoms l = l.relations.items ≡ l.initial.relations.items
