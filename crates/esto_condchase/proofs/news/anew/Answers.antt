use Rattle.std.proofs.Common.{◌++◌, refl, sym, subst}
use Rattle.std.proofs.lemmas.Result.{IfOk-weaker}
use Rattle.esto_known.specs.KeptWays.{AreCounted}
use Rattle.esto_condchase.proofs.WayLemmas.{found_lengths}
use Rattle.esto_condchase.proofs.FoundLemmas.{anew_last}
use Rattle.esto_condchase.proofs.news.anew.Goals as goal

pub match_next-requires-clause-lengths : goal.match_next-requires-clause-lengths
match_next-requires-clause-lengths c = found_lengths c.args.known.now c.args.body.now (c.args.last.now.terms ++ c.args.asked.now) c.args.sides.now
    c.in_ok-given.given c.items.result.now c.in_ok-from.from c.in_ok-given.ensures.found c.items.ensures c.in_ok-from.ensures

pub match_next-requires-clause-given : goal.match_next-requires-clause-given
match_next-requires-clause-given c = subst (AreCounted c.args.count) (sym c.items.ensures) c.in_ok-given.ensures.counted

pub returns-clause-found : goal.returns-clause-found
returns-clause-found c = IfOk-weaker c.match_next.result _ _
    (λ ways. anew_last c.args.known.now c.args.since c.args.body.now c.args.last.now c.args.asked.now c.args.sides.now
    (c.args.last.now.terms ++ c.args.asked.now) c.in_ok-from.from c.in_ok-given.given c.items.result.now ways c.requires.among c.in_ok-from.ensures
    refl c.items.ensures c.in_ok-given.ensures.found)
    c.match_next.ensures.next

pub returns-clause-counted : goal.returns-clause-counted
returns-clause-counted c = c.match_next.ensures.counted
