use Rattle.std.proofs.Common.{subst}
use Rattle.std.proofs.lemmas.Result.{IfOk-weaker}
use Rattle.esto_constraint.specs.Constraints.{rules_of}
use Rattle.esto_data.proofs.CodedAuditLemmas.{agrees, all_found, rule_found}
use Rattle.esto_data.proofs.CodedViewLemmas.{lists_grow}
use Rattle.esto_data.specs.Disagreeing.{FindsUnlike}
use Rattle.esto_fill.proofs.DifferenceLemmas.{are_rules}
use Rattle.esto_views.specs.Fragments.{views_of}
use Rattle.esto_data.proofs.coded_audit.first_disagreement.Goals as goal

pub returns-in-Some-clause-found : goal.returns-in-Some-clause-found
returns-in-Some-clause-found c =
    let catalogue = c.args.catalogue.now in
    let found = rw (c.items.ensures, c.items-2.ensures, c.in-Some.is) at c.in_ok-found.ensures.found in λ loaded its lists are.
    rule_found (rules_of c.args.laws.now) (rules_of catalogue.rules) (views_of catalogue.fragments) loaded.facts lists c.in-Some.found (found loaded its)

pub returns-in-None-clause-found : goal.returns-in-None-clause-found
returns-in-None-clause-found c =
    let catalogue = c.args.catalogue.now in
    let passed = rw (c.items.ensures, c.items-2.ensures, c.in-None.is) at c.in_ok-found.ensures.found in
    let stays = c.first_unpassed.ensures.stays in
    IfOk-weaker c.first_unlike.result _ _
    (λ outcome told loaded its lists are.
    all_found (rules_of c.args.laws.now) (rules_of catalogue.rules) (views_of catalogue.fragments) loaded.facts lists outcome (passed loaded its)
    (told loaded (stays.kept loaded its) lists (lists_grow _ _ c.args.rows.now lists stays.grown are)))
    (rw c.items-in-None.ensures at c.first_unlike.ensures.found)

pub returns-in-None-clause-agree : goal.returns-in-None-clause-agree
returns-in-None-clause-agree c =
    let catalogue = c.args.catalogue.now in
    let laws = rules_of c.args.laws.now in
    let passed = rw (c.items.ensures, c.items-2.ensures, c.in-None.is) at c.in_ok-found.ensures.found in
    let stays = c.first_unpassed.ensures.stays in
    IfOk-weaker c.first_unlike.result _ _
    (λ outcome told none loaded its facts enough lists are.
    agrees c.databases_stand_for_facts.ensures.rules catalogue.rules laws catalogue.fragments facts loaded.facts lists
    (are_rules c.rules_are_sound.ensures.rules catalogue.rules) enough (
      passed loaded its,
      subst (FindsUnlike (views_of catalogue.fragments) loaded.facts lists) none
          (told loaded (stays.kept loaded its) lists (lists_grow _ _ c.args.rows.now lists stays.grown are)),
    ))
    (rw c.items-in-None.ensures at c.first_unlike.ensures.found)
