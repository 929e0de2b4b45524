use Rattle.std.proofs.Common.{◌≡◌, map, take}
use Rattle.esto_coded.specs.Relations.{no_rows}
use Rattle.esto_coded.proofs.relations.no_relations.Given as goal

abbrev pub invariant-arities : goal.invariant-arities
invariant-arities l = l.relations.items ≡ map no_rows (take l.arity-index l.arities)
