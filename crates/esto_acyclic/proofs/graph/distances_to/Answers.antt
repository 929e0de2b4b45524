use Rattle.std.proofs.Common.{sym, ap, subst, ◌∙◌, length}
use Rattle.std.proofs.Math.ListN.{set}
use Rattle.std.proofs.lemmas.List.{length-set, length-replicate}
use Rattle.esto_acyclic.specs.Rounds.{AreNear, Sinks}
use Rattle.esto_acyclic.proofs.DistanceLemmas.{AreNear-start, AreDistances-still}
use Rattle.esto_constraint.specs.Graphs.{Joins, IsWithin}
use Rattle.esto_acyclic.proofs.graph.distances_to.Goals as goal

pub sink-requires : goal.sink-requires
sink-requires c = subst (λ count. IsWithin count (Joins c.args.edges.now)) (sym c.rounds.invariant.same) c.requires.within

pub rounds-init : goal.rounds-init
rounds-init c = record {
  same = length-set c.in_ok-distances.distances.items c.args.target 0 ∙ ap length c.in_ok-distances.ensures ∙ length-replicate c.args.count c.args.count;
  near = subst (λ it. AreNear (Joins c.args.edges.now) c.args.target (set it c.args.target 0)) (sym c.in_ok-distances.ensures)
      (AreNear-start (Joins c.args.edges.now) c.args.count c.args.target c.requires.target);
}

pub returns-then-not-sink-clause-same : goal.returns-then-not-sink-clause-same
returns-then-not-sink-clause-same c = c.sink.ensures.same ∙ c.rounds.invariant.same

pub returns-then-not-sink-clause-exact : goal.returns-then-not-sink-clause-exact
returns-then-not-sink-clause-exact c =
    AreDistances-still c.args.edges.now c.args.target c.sink.new.distances.items (c.sink.ensures.near c.args.target c.rounds.invariant.near)
    (subst (Sinks c.args.edges.now c.rounds.distances.items c.sink.new.distances.items) c.if-not-sink.true c.sink.ensures.sinks)

pub rounds-preserved : goal.rounds-preserved
rounds-preserved c = record {
  same = c.sink.ensures.same ∙ c.rounds.invariant.same;
  near = c.sink.ensures.near c.args.target c.rounds.invariant.near;
}

pub rounds-smaller : goal.rounds-smaller
rounds-smaller c = subst (Sinks c.args.edges.now c.rounds.distances.items c.sink.new.distances.items) c.if-not-sink.false c.sink.ensures.sinks
