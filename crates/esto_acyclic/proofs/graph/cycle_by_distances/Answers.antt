use Rattle.std.proofs.Common.{◌≡◌, ◌+◌, ◌-◌, length, sym, subst, arith}
use Rattle.esto_constraint.specs.Graphs.{Joins}
use Rattle.esto_acyclic.proofs.DistanceLemmas.{WalkedSoFar, HasNoCycle-far, walked_start, walked_next, walked_end}
use Rattle.esto_acyclic.proofs.graph.cycle_by_distances.Goals as goal

pub returns-then-near-distances : goal.returns-then-near-distances
returns-then-near-distances c =
    HasNoCycle-far (Joins c.args.edges.now) (length c.args.distances.now) c.args.start c.args.distances.now c.requires.within c.requires.start c.requires.exact
    (λ next edge. (let least = c.nearest-near.ensures.least next edge in omega arith))

pub steps-init : goal.steps-init
steps-init c =
    subst (λ path. WalkedSoFar (Joins c.args.edges.now) c.args.start (c.nearest-near.result + 1) c.args.distances.now path c.args.start
    (c.nearest-near.result + 1)) (sym c.new-cycle.ensures)
    (walked_start (Joins c.args.edges.now) c.args.start c.args.distances.now c.requires.exact c.nearest-near.result c.requires.start c.requires.within
    c.nearest-near.ensures.least c.if-near-distances.false (c.nearest-near.ensures.is c.if-near-distances.false))

pub steps-preserved : goal.steps-preserved
steps-preserved c =
    subst (λ path. WalkedSoFar (Joins c.args.edges.now) c.args.start (c.nearest-near.result + 1) c.args.distances.now path c.least_next-relation.result
    (c.steps.left - 1)) (sym c.in_ok-push.ensures.ok)
    (walked_next (Joins c.args.edges.now) c.args.start c.args.distances.now c.requires.exact
    (c.nearest-near.result + 1) c.steps.cycle c.steps.relation c.steps.left c.least_next-relation.result c.requires.within c.steps.invariant
    c.steps-test.true c.least_next-relation.ensures.least c.least_next-relation.ensures.is)

pub returns : goal.returns
returns c = walked_end (Joins c.args.edges.now) c.args.start c.args.distances.now c.requires.exact c.nearest-near.result c.steps.cycle c.steps.relation
    c.nearest-near.ensures.least (subst
    (WalkedSoFar (Joins c.args.edges.now) c.args.start (c.nearest-near.result + 1) c.args.distances.now c.steps.cycle c.steps.relation) none_left
    c.steps.invariant)
  where
    none_left : c.steps.left ≡ 0
    none_left = omega arith
