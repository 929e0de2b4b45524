use Rattle.esto_known.proofs.LiveLemmas.{way_old}
use Rattle.esto_known.proofs.way.is_new.Goals as goal

pub returns-else-has_later : goal.returns-else-has_later
returns-else-has_later c = λ told.
    way_old c.args.way.now c.args.since _ _ c.items.ensures c.items-else-has_later.ensures (c.has_later.ensures.old c.if-has_later.false)
    (c.has_later-else-has_later.ensures.old told)
