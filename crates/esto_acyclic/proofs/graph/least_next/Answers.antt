use Rattle.std.proofs.Common.{◌≡◌, length, slice_index, refl}
use Rattle.esto_acyclic.proofs.DistanceLemmas.{least_start, least_next, least_whole, ends_within}
use Rattle.esto_acyclic.proofs.graph.least_next.Goals as goal

pub lesser-best-requires : goal.lesser-best-requires
lesser-best-requires c = (ends_within c.args.edges.now (length c.args.distances.now) c.edges.edge-index c.requires c.edges-test.true).1

pub returns-clause-least : goal.returns-clause-least
returns-clause-least c = λ next edge. least_whole c.args.edges.now c.args.relation (λ n. slice_index c.args.distances.now n ≡ c.args.distance) (λ n. n)
    (length c.args.distances.now) c.edges.best c.edges.edge-index c.edges.invariant c.edges-test.false next edge

pub edges-init : goal.edges-init
edges-init c =
    least_start c.args.edges.now c.args.relation (λ n. slice_index c.args.distances.now n ≡ c.args.distance) (λ n. n) (length c.args.distances.now)

pub edges-preserved : goal.edges-preserved
edges-preserved c = least_next c.args.edges.now c.args.relation (λ n. slice_index c.args.distances.now n ≡ c.args.distance) (λ n. n)
    (length c.args.distances.now) c.edges.best c.edges.edge-index c.edges.invariant c.edges-test.true _ _ refl c.lesser-best.result
    c.lesser-best.ensures.within c.lesser-best.ensures.least c.lesser-best.ensures.is
