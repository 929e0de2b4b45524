use Rattle.std.proofs.Common.{length, slice_index, refl, inl, inr}
use Rattle.esto_acyclic.proofs.DistanceLemmas.{least_start, least_next, least_whole, ends_within}
use Rattle.esto_acyclic.proofs.graph.nearest.Goals as goal

pub nearer-best-requires : goal.nearer-best-requires
nearer-best-requires c = (ends_within c.args.edges.now (length c.args.distances.now) c.edges.edge-index c.requires c.edges-test.true).1

pub returns-clause-least : goal.returns-clause-least
returns-clause-least c = λ next edge. least_whole c.args.edges.now c.args.relation (λ n. Unit {0}) (λ n. slice_index c.args.distances.now n)
    (length c.args.distances.now) c.edges.best c.edges.edge-index c.edges.invariant c.edges-test.false next edge tt

pub edges-init : goal.edges-init
edges-init c =
    least_start c.args.edges.now c.args.relation (λ n. Unit {0}) (λ n. slice_index c.args.distances.now n) (length c.args.distances.now)

pub returns-clause-is : goal.returns-clause-is
returns-clause-is c = λ below. let (next, joins, _, is) = c.edges.invariant.is below in (next, joins, is)

pub edges-preserved : goal.edges-preserved
edges-preserved c = least_next c.args.edges.now c.args.relation (λ n. Unit {0}) (λ n. slice_index c.args.distances.now n) (length c.args.distances.now)
    c.edges.best c.edges.edge-index c.edges.invariant c.edges-test.true _ _ refl c.nearer-best.result c.nearer-best.ensures.within
    (λ from _. c.nearer-best.ensures.least from)
    (elim c.nearer-best.ensures.is [ inl same ↦ inl same | inr found ↦ inr (found.0, tt, found.1) ])
