use Rattle.esto_query.proofs.LeastLemmas.{IsLeastMatch-searched, HasNoMatch-searched}
use Rattle.esto_query.proofs.matches.least_by.Goals as goal

pub returns-clause-found : goal.returns-clause-found
returns-clause-found c =
    let found = rw c.if-not-branch.false at c.in_ok-search.ensures in
    let valuation = rw c.deref.ensures.value at c.in_ok-valuation.ensures in
    IsLeastMatch-searched c.args.start.now c.in_ok-valuation.valuation c.args.body.now c.args.facts.now c.args.from.now
    c.args.trail.now.items c.search.new.trail.items c.new-places.result c.search.new.places
    c.requires.flat c.requires.empty c.new-places.ensures valuation found

pub returns-then-not-branch-clause-none : goal.returns-then-not-branch-clause-none
returns-then-not-branch-clause-none c =
    let missed = rw c.if-not-branch.true at c.in_ok-search.ensures in
    HasNoMatch-searched c.args.start.now c.args.body.now c.args.facts.now c.args.from.now
    c.args.trail.now.items c.search.new.trail.items c.new-places.result c.search.new.places c.requires.empty missed
