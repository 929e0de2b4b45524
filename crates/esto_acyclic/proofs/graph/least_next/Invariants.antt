use Rattle.std.proofs.Common.{◌≡◌, length, slice_index}
use Rattle.esto_acyclic.proofs.DistanceLemmas.{LeastSoFar}
use Rattle.esto_acyclic.proofs.graph.least_next.Given as goal

abbrev pub invariant-edges : goal.invariant-edges
invariant-edges l = LeastSoFar l.edges l.relation (λ next. slice_index l.distances next ≡ l.distance) (λ next. next) (length l.distances) l.best l.edge-index
