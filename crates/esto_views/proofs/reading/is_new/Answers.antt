use Rattle.std.proofs.Common.{inr}
use Rattle.esto_term.proofs.ListLemmas.{Contains-at}
use Rattle.esto_views.proofs.IndexLemmas.{not_first}
use Rattle.esto_views.proofs.reading.is_new.Goals as goal

pub returns-else-first-place-clause-known : goal.returns-else-first-place-clause-known
returns-else-first-place-clause-known c = λ _.
    inr (not_first c.args.terms.now c.args.term.now c.args.place c.in-Some.first c.requires c.in-Some.ensures c.if-first-place.false)

pub returns-in-None-clause-known : goal.returns-in-None-clause-known
returns-in-None-clause-known c = λ _. absurd (c.in-None.ensures (Contains-at c.args.terms.now c.args.place c.args.term.now c.requires))
