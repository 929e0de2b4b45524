use Rattle.esto_query.specs.Active.{rule_of}
use Rattle.esto_query.proofs.LeastActiveLemmas.{least_searched}
use Rattle.esto_query.proofs.least.least_found.Goals as goal

pub returns-then-not-branch : goal.returns-then-not-branch
returns-then-not-branch c =
    let missed = rw c.if-not-branch.true at c.in_ok-least_from.ensures in
    missed.2

pub returns : goal.returns
returns c =
    let found = rw c.if-not-branch.false at c.in_ok-least_from.ensures in
    let valuation = rw c.deref.ensures.value at c.in_ok-valuation.ensures in
    least_searched c.args.facts.now (rule_of c.args.rule.now) c.args.start.now c.in_ok-valuation.valuation
    c.args.rule.now.body.now c.args.trail.now.items c.least_from.new.trail.items c.new-places.result c.least_from.new.places
    c.new-places.ensures valuation found
