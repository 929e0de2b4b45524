use Rattle.esto_known.proofs.LiveLemmas.{unlinked}
use Rattle.esto_known.proofs.fresh.is_linked.Goals as goal

pub returns : goal.returns
returns c told = unlinked c.args.known.now c.groups-groups.result.now c.items.result.now c.args.own.now c.args.since c.in_ok-found.found c.items-2.result.now
    c.groups-groups.ensures c.items.ensures c.items-2.ensures c.in_ok-found.ensures (c.has_since-linked.ensures told)
