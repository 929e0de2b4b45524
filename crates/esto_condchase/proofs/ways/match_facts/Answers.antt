use Rattle.std.proofs.Common.{sym, subst}
use Rattle.esto_known.specs.Live.{AreAllFacts}
use Rattle.esto_known.proofs.LiveLemmas.{fresh_items}
use Rattle.esto_condchase.proofs.ways.match_facts.Goals as goal

pub match_all-requires-clause-facts : goal.match_all-requires-clause-facts
match_all-requires-clause-facts c = subst (AreAllFacts c.args.level.now.known.now c.args.level.now.atom.now.relation) (sym c.items-2.ensures)
    c.in_ok-facts.ensures

pub match_all-requires-clause-fresh : goal.match_all-requires-clause-fresh
match_all-requires-clause-fresh c = fresh_items c.args.level.now.known.now c.args.level.now.since c.in_ok-facts.facts c.items.result.now c.items-2.result.now
    c.in_ok-fresh.fresh c.items-3.result.now c.items.ensures c.items-2.ensures c.items-3.ensures c.in_ok-fresh.ensures

pub returns-clause-grown : goal.returns-clause-grown
returns-clause-grown c = c.match_all.ensures.grown

pub returns-clause-goes : goal.returns-clause-goes
returns-clause-goes c = c.match_all.ensures.goes

pub returns-clause-counted : goal.returns-clause-counted
returns-clause-counted c = c.match_all.ensures.counted
