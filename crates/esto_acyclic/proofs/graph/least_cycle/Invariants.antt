use Rattle.std.proofs.Common.{◌<◌, ℕ}
use Rattle.esto_constraint.specs.Graphs.{Joins, HasNoCycle}
use Rattle.esto_acyclic.proofs.graph.least_cycle.Given as goal

abbrev pub invariant-starts : goal.invariant-starts
invariant-starts l = (other : ℕ) → other < l.start → HasNoCycle (Joins l.edges) other
