use Rattle.std.proofs.Common.{◌+◌, refl, sym, subst}
use Rattle.esto_acyclic.specs.Rounds.{Lowers}
use Rattle.esto_acyclic.proofs.DistanceLemmas.{SunkSoFar, sunk_start, sunk_within, sunk_still, sunk_less}
use Rattle.esto_acyclic.proofs.graph.sink.Goals.{then-lower, else-lower}
use Rattle.esto_acyclic.proofs.graph.sink.Goals as goal

pub lower-requires-clause-from : goal.lower-requires-clause-from
lower-requires-clause-from c = (sunk_within c.args.edges.now c.args.distances.now.items c.edges.distances.items c.edges.fell c.edges.edge-index _ _
    c.edges.invariant c.edges-test.true refl).0

pub lower-requires-clause-to : goal.lower-requires-clause-to
lower-requires-clause-to c = (sunk_within c.args.edges.now c.args.distances.now.items c.edges.distances.items c.edges.fell c.edges.edge-index _ _
    c.edges.invariant c.edges-test.true refl).1

pub edges-init : goal.edges-init
edges-init c = sunk_start c.args.edges.now c.args.distances.now.items c.requires

pub edges-preserved : goal.edges-preserved
edges-preserved c = elim c.if-lower.branch [
  | then-lower w ↦ subst (λ fell. SunkSoFar c.args.edges.now c.args.distances.now.items c.lower.new.distances.items fell (c.edges.edge-index + 1))
      (sym w.fell-is) (sunk_less c.args.edges.now c.args.distances.now.items c.edges.distances.items c.edges.fell c.edges.edge-index _ _ c.edges.invariant
      c.edges-test.true refl c.lower.new.distances.items
      (subst (Lowers _ _ c.edges.distances.items c.lower.new.distances.items) w.if-lower.true c.lower.ensures))
  | else-lower w ↦ subst (λ fell. SunkSoFar c.args.edges.now c.args.distances.now.items c.lower.new.distances.items fell (c.edges.edge-index + 1))
      (sym w.fell-is) (sunk_still c.args.edges.now c.args.distances.now.items c.edges.distances.items c.edges.fell c.edges.edge-index _ _ c.edges.invariant
      c.edges-test.true refl c.lower.new.distances.items
      (subst (Lowers _ _ c.edges.distances.items c.lower.new.distances.items) w.if-lower.false c.lower.ensures))
]
