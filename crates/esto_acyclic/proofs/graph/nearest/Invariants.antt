use Rattle.std.proofs.Common.{length, slice_index}
use Rattle.esto_acyclic.proofs.DistanceLemmas.{LeastSoFar}
use Rattle.esto_acyclic.proofs.graph.nearest.Given as goal

abbrev pub invariant-edges : goal.invariant-edges
invariant-edges l = LeastSoFar l.edges l.relation (λ next. Unit {0}) (λ next. slice_index l.distances next) (length l.distances) l.best l.edge-index
