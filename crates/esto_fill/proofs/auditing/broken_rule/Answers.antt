use Rattle.std.proofs.Common.{arith}
use Rattle.std.proofs.lemmas.List.{length-map}
use Rattle.std.proofs.lemmas.Option.{slice_get_within}
use Rattle.std.proofs.lemmas.Result.{IfOk-weaker}
use Rattle.esto_constraint.specs.Constraints.{rule_of, rules_of}
use Rattle.esto_fill.proofs.DifferenceLemmas.{are_rules, met_meets}
use Rattle.esto_fill.proofs.PartLemmas.{judged_by_match}
use Rattle.esto_fill.proofs.ValueLemmas.{facts_stand}
use Rattle.esto_fill.proofs.auditing.broken_rule.Goals as goal

pub returns-in_default : goal.returns-in_default
returns-in_default c =
    let rules = c.args.catalogue.now.rules in
    let met = rw c.in_default.is at c.in_ok-broken.ensures in
    met_meets c.databases_stand_for_facts.ensures.rules c.args.facts.now (facts_stand c.args.facts.now c.requires) (rules_of rules)
    (are_rules c.rules_are_sound.ensures.rules rules) met

pub difference_of-requires : goal.difference_of-requires
difference_of-requires c =
    let rules = c.args.catalogue.now.rules in
    let broken = rw c.in-Some.is at c.in_ok-broken.ensures in
    let within = slice_get_within (rules_of rules) c.in-Some.broken.rule broken.rule broken.there in
    let long = length-map rules rule_of in
    omega (arith, within, long)

pub returns : goal.returns
returns c =
    let broken = rw c.in-Some.is at c.in_ok-broken.ensures in
    IfOk-weaker c.difference_of.result _ _
    (λ outcome told.
    judged_by_match c.args.catalogue.now c.in-Some.broken.rule c.in-Some.broken.found.valuation c.args.facts.now c.in-Some.broken.found.places
    c.requires broken outcome told)
    c.difference_of.ensures
