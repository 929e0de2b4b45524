use Rattle.esto_known.proofs.LiveLemmas.{since_group}
use Rattle.esto_known.proofs.fresh.is_since.Goals as goal

pub returns-in-Some : goal.returns-in-Some
returns-in-Some c told group at = since_group c.args.groups.now c.args.at c.in-Some.group.now group c.items.result.now c.args.since c.items.ensures
    c.in-Some.ensures (c.has_later.ensures.old told) at
