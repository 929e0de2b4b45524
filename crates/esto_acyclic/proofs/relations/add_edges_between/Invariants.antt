use Rattle.std.proofs.Common.{◌≡◌, ◌++◌, take}
use Rattle.esto_constraint.specs.Relations.{edges_between}
use Rattle.esto_acyclic.proofs.relations.add_edges_between.Given as goal

abbrev pub invariant-atoms : goal.invariant-atoms
invariant-atoms l = l.edges ≡ l.fn.edges ++ edges_between (take l.atom-index l.body) l.head
