use Rattle.std.proofs.Common.{arith}
use Rattle.esto_constraint.specs.Graphs.{Joins}
use Rattle.esto_acyclic.proofs.DistanceLemmas.{no_long_walk}
use Rattle.esto_acyclic.proofs.graph.least_cycle.Goals as goal

pub unreachable-requires : goal.unreachable-requires
unreachable-requires c = no_long_walk (Joins c.args.edges.now) c.args.count c.requires.within c.requires.long
    (λ start below. c.starts.invariant start (omega arith))
