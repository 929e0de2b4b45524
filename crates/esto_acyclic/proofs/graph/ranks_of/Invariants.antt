use Rattle.std.proofs.Common.{◌≡◌, ◌-◌, ◌*◌, length, sum}
use Rattle.esto_constraint.specs.Graphs.{Joins}
use Rattle.esto_acyclic.specs.Rounds.{AreReached}
use Rattle.esto_acyclic.proofs.graph.ranks_of.Given as goal

abbrev pub invariant-rounds : goal.invariant-rounds
invariant-rounds l = record {
  same : length l.ranks.items ≡ l.count;
  reached : AreReached (Joins l.edges) l.ranks.items;
}

-- what the numbers can still grow by
abbrev pub decreases-rounds : goal.decreases-rounds
decreases-rounds l = l.count * l.count - sum l.ranks.items
