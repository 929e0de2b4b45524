use Rattle.std.proofs.Common.{◌∙◌, sym, arith}
use Rattle.std.proofs.lemmas.List.{length-map}
use Rattle.esto_views.specs.Fragments.{patterns_of}
use Rattle.esto_views.specs.Plans.{fact_of, plan_query}
use Rattle.esto_access.proofs.SupplyLemmas.{after_none, after_more, all_tell, last_tells}
use Rattle.esto_access.proofs.supply.last_supplies.Goals as goal

pub rounds-init : goal.rounds-init
rounds-init c =
    after_none (patterns_of c.args.fragments.now) (plan_query c.args.plan.now).body c.len.result c.in_ok-supplies.supplies
    (c.len.ensures ∙ sym (length-map c.args.plan.now.atoms fact_of)) c.in_ok-supplies.ensures

pub rounds-preserved : goal.rounds-preserved
rounds-preserved c =
    after_more (patterns_of c.args.fragments.now) (plan_query c.args.plan.now).body c.rounds._round c.rounds.supplies c.advance.new.supplies
    c.rounds.invariant c.in_ok-last.ensures.supplies c.in_ok-last.ensures.round

pub returns-then-last-clause-tell : goal.returns-then-last-clause-tell
returns-then-last-clause-tell c =
    last_tells (patterns_of c.args.fragments.now) (plan_query c.args.plan.now).body c.rounds_are_enough.ensures.last c.rounds._round c.rounds.supplies
    c.advance.new.supplies c.rounds.invariant.1 c.in_ok-last.ensures.round
    (c.in_ok-last.ensures.last.0 c.if-last.true)

pub returns-clause-tell : goal.returns-clause-tell
returns-clause-tell c =
    let same = length-map c.args.plan.now.atoms fact_of in
    all_tell (patterns_of c.args.fragments.now) (plan_query c.args.plan.now).body c.rounds_are_enough.ensures.all c.rounds._round
    (omega (arith, same, c.rounds-test.false, c.len-round-end.ensures, c.rounds.auto._round-end)) c.rounds.supplies c.rounds.invariant.1
