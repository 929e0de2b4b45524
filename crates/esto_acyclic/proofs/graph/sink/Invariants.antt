use Rattle.esto_acyclic.proofs.DistanceLemmas.{SunkSoFar}
use Rattle.esto_acyclic.proofs.graph.sink.Given as goal

abbrev pub invariant-edges : goal.invariant-edges
invariant-edges l = SunkSoFar l.edges l.fn.distances.items l.distances.items l.fell l.edge-index
