use Rattle.esto_query.proofs.IndexLemmas.{candidates-relation}
use Rattle.esto_query.proofs.indexed.all_places.Goals as goal

pub returns : goal.returns
returns c known =
    rw c.at.ensures
    (rw c.facts.view_is at (candidates-relation c.facts.inside.facts.now c.facts.inside.index c.args.atom.now known c.facts.invariant))
