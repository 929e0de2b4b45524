use Rattle.esto_query.specs.Trails.{with_trail}
use Rattle.esto_query.proofs.IndexLemmas.{candidates-relation}
use Rattle.esto_query.proofs.index.places_for.Goals as goal

pub columns-init : goal.columns-init
columns-init c =
    rw c.at-best.ensures (candidates-relation c.args.facts.now c.args.index.now c.args.atom.now (with_trail c.args.start.now c.args.trail.now) c.requires)

pub fewer_by-best-requires-clause-index : goal.fewer_by-best-requires-clause-index
fewer_by-best-requires-clause-index c = c.requires

pub fewer_by-best-requires-clause-best : goal.fewer_by-best-requires-clause-best
fewer_by-best-requires-clause-best c = c.columns.invariant

pub columns-preserved : goal.columns-preserved
columns-preserved c = c.fewer_by-best.ensures

pub returns : goal.returns
returns c = c.columns.invariant
