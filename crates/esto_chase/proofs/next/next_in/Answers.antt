use Rattle.std.proofs.lemmas.Result.{IfOk-weaker}
use Rattle.std.proofs.lemmas.Option.{MatchOption-at_none, MatchOption-at_some}
use Rattle.esto_chase.proofs.NextLemmas.{Met, First, equality_next, denial_next, last_of_all}
use Rattle.esto_chase.proofs.next.next_in.Goals as goal

-- src/next.rt:73:9
pub returns-in-Some : goal.returns-in-Some
returns-in-Some c = equality_next c.least_active_matches_are_least.ensures c.args.rules.now c.args.facts.now c.in-Some.broken.rule
    c.in-Some.broken.found.valuation c.in-Some.broken.found.places
    (MatchOption-at_some (Met c.args.rules.now c.args.facts.now 0)
    (First c.args.rules.now c.args.facts.now 0) c.in-Some.broken c.in-Some.is c.in_ok-equality.ensures)

-- src/next.rt:77:9
pub returns-in-Some-denial : goal.returns-in-Some-denial
returns-in-Some-denial c = denial_next c.least_active_matches_are_least.ensures c.args.rules.now c.args.facts.now
    (MatchOption-at_none (Met c.args.rules.now c.args.facts.now 0) (First c.args.rules.now c.args.facts.now 0) c.in_default.is c.in_ok-equality.ensures)
    c.in-Some-denial.broken.rule c.in-Some-denial.broken.found.valuation c.in-Some-denial.broken.found.places
    (MatchOption-at_some (Met c.args.rules.now c.args.facts.now 1)
    (First c.args.rules.now c.args.facts.now 1) c.in-Some-denial.broken c.in-Some-denial.is c.in_ok-denial.ensures)

-- src/next.rt:61:1
pub returns : goal.returns
returns c = IfOk-weaker c.first_of-3.result _ _ (last_of_all c.least_active_matches_are_least.ensures c.args.rules.now c.args.facts.now
    (MatchOption-at_none (Met c.args.rules.now c.args.facts.now 0) (First c.args.rules.now c.args.facts.now 0) c.in_default.is c.in_ok-equality.ensures)
    (MatchOption-at_none (Met c.args.rules.now c.args.facts.now 1) (First c.args.rules.now c.args.facts.now 1) c.in_default-denial.is c.in_ok-denial.ensures))
    c.first_of-3.ensures
