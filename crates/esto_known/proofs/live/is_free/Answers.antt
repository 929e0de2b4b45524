use Rattle.std.proofs.lemmas.Bool.{false≢true}
use Rattle.esto_term.proofs.ListLemmas.{Contains-at}
use Rattle.esto_known.proofs.live.is_free.Goals as goal

pub returns-then-place-floor : goal.returns-then-place-floor
returns-then-place-floor c free = absurd (false≢true free)

pub within-requires : goal.within-requires
within-requires c = c.requires c.in-Some.entry.now (Contains-at c.args.known.now c.args.place c.in-Some.entry.now c.in-Some.ensures.0)

pub returns-in-None : goal.returns-in-None
returns-in-None c free = absurd (false≢true free)

pub returns-in-Some : goal.returns-in-Some
returns-in-Some c free = (c.in-Some.entry.now, c.if-place-floor.false, c.in-Some.ensures.0, c.in-Some.ensures.1, c.within.ensures.0 free)
