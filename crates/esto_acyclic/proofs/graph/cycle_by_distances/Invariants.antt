use Rattle.std.proofs.Common.{◌+◌}
use Rattle.esto_constraint.specs.Graphs.{Joins}
use Rattle.esto_acyclic.proofs.DistanceLemmas.{WalkedSoFar}
use Rattle.esto_acyclic.proofs.graph.cycle_by_distances.Given as goal

abbrev pub invariant-steps : goal.invariant-steps
invariant-steps l = WalkedSoFar (Joins l.edges) l.start (l.near + 1) l.distances l.cycle l.relation l.left

abbrev pub decreases-steps : goal.decreases-steps
decreases-steps l = l.left
