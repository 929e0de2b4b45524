use Rattle.std.proofs.Common.{◌≡◌, ◌++◌, take}
use Rattle.esto_constraint.specs.Relations.{edges_from}
use Rattle.esto_acyclic.proofs.relations.add_edges_from.Given as goal

abbrev pub invariant-atoms : goal.invariant-atoms
invariant-atoms l = l.edges ≡ l.fn.edges ++ edges_from l.relation (take l.atom-index l.head)
