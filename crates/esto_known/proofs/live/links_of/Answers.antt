use Rattle.esto_known.proofs.LiveLemmas.{links_nowhere, links_some}
use Rattle.esto_known.proofs.live.links_of.Goals as goal

pub returns-in-None : goal.returns-in-None
returns-in-None c place entry at says =
    absurd (links_nowhere c.args.known.now c.groups.result.now c.groups.ensures c.args.own.now c.args.goal.now c.in-None.ensures place entry at says)

pub returns-in-Some : goal.returns-in-Some
returns-in-Some c = links_some c.args.known.now c.groups.result.now c.groups.ensures c.args.own.now c.args.goal.now _ c.in-Some.ensures.0 c.in-Some.ensures.1 _
    c.items.ensures
