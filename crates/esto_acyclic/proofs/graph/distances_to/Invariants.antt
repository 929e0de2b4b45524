use Rattle.std.proofs.Common.{◌≡◌, length, sum}
use Rattle.esto_constraint.specs.Graphs.{Joins}
use Rattle.esto_acyclic.specs.Rounds.{AreNear}
use Rattle.esto_acyclic.proofs.graph.distances_to.Given as goal

abbrev pub invariant-rounds : goal.invariant-rounds
invariant-rounds l = record {
  same : length l.distances.items ≡ l.count;
  near : AreNear (Joins l.edges) l.target l.distances.items;
}

abbrev pub decreases-rounds : goal.decreases-rounds
decreases-rounds l = sum l.distances.items
