use Rattle.std.proofs.Common.{◌+◌, refl, sym, subst}
use Rattle.esto_acyclic.proofs.RankLemmas.{RaisedSoFar, raised_start, raised_within, raised_still, raised_more, raised_full}
use Rattle.esto_acyclic.proofs.graph.raise.Goals.{in-Still, in-Rose}
use Rattle.esto_acyclic.proofs.graph.raise.Goals as goal

pub lift-requires-clause-from : goal.lift-requires-clause-from
lift-requires-clause-from c = (raised_within c.args.edges.now c.args.ranks.now.items c.edges.ranks.items c.edges.rose c.edges.edge-index _ _ c.edges.invariant
    c.edges-test.true refl).0

pub lift-requires-clause-to : goal.lift-requires-clause-to
lift-requires-clause-to c = (raised_within c.args.edges.now c.args.ranks.now.items c.edges.ranks.items c.edges.rose c.edges.edge-index _ _ c.edges.invariant
    c.edges-test.true refl).1

pub returns-in-Full-clause-reached : goal.returns-in-Full-clause-reached
returns-in-Full-clause-reached c =
    (raised_full c.args.edges.now c.args.ranks.now.items c.edges.ranks.items c.edges.rose c.edges.edge-index _ _ c.edges.invariant c.edges-test.true refl
    c.lift.new.ranks.items c.in-Full.ensures).1

pub returns-in-Full-clause-raises : goal.returns-in-Full-clause-raises
returns-in-Full-clause-raises c =
    (raised_full c.args.edges.now c.args.ranks.now.items c.edges.ranks.items c.edges.rose c.edges.edge-index _ _ c.edges.invariant c.edges-test.true refl
    c.lift.new.ranks.items c.in-Full.ensures).0

pub edges-init : goal.edges-init
edges-init c = raised_start c.args.edges.now c.args.ranks.now.items c.requires.within c.requires.reached

pub edges-preserved : goal.edges-preserved
edges-preserved c = elim c.match-lift.branch [
  | in-Still w ↦ subst (λ rose. RaisedSoFar c.args.edges.now c.args.ranks.now.items c.lift.new.ranks.items rose (c.edges.edge-index + 1)) (sym w.rose-is)
      (raised_still c.args.edges.now c.args.ranks.now.items c.edges.ranks.items c.edges.rose c.edges.edge-index _ _ c.edges.invariant c.edges-test.true refl
      c.lift.new.ranks.items w.in-Still.ensures)
  | in-Rose w ↦ subst (λ rose. RaisedSoFar c.args.edges.now c.args.ranks.now.items c.lift.new.ranks.items rose (c.edges.edge-index + 1)) (sym w.rose-is)
      (raised_more c.args.edges.now c.args.ranks.now.items c.edges.ranks.items c.edges.rose c.edges.edge-index _ _ c.edges.invariant c.edges-test.true refl
      c.lift.new.ranks.items w.in-Rose.ensures)
]
