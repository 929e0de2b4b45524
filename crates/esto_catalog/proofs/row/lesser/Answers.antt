use Rattle.esto_catalog.proofs.LeastLemmas.{lesser_new, lesser_old}
use Rattle.esto_catalog.proofs.row.lesser.Goals as goal

pub returns-then-is_lt : goal.returns-then-is_lt
returns-then-is_lt c = rw c.in-Some.is (lesser_new c.args.key.now c.in-Some.other.now (cc))

pub returns-else-is_lt : goal.returns-else-is_lt
returns-else-is_lt c = rw c.in-Some.is (lesser_old c.args.key.now c.in-Some.other.now (cc))
