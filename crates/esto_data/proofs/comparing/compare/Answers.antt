use Rattle.std.proofs.Common.{List, None, map, refl, subst}
use Rattle.esto_constraint.specs.Constraints.{rules_of}
use Rattle.esto_constraint.specs.EncodingRules.{written}
use Rattle.esto_course.specs.Course.Stops.{is_free}
use Rattle.esto_course.proofs.Steps.{at_exit}
use Rattle.esto_views.specs.Fragments.{views_of}
use Rattle.esto_data.specs.CodedParts.{Stays}
use Rattle.esto_data.specs.Disagreeing.{IsFirstUnlike}
use Rattle.esto_data.specs.Fill.{names_of}
use Rattle.esto_fill.specs.Judging.{ArePassed}
use Rattle.esto_fill.specs.declared.loaded.Loaded.{Loaded}
use Rattle.esto_data.proofs.CodedLemmas.{audit_left, audit_stays, left_enough, to_audit}
use Rattle.esto_data.proofs.CompareLemmas.{contents_grow, contents_many, contents_rows, fragment_within, rule_within}
use Rattle.esto_data.proofs.StepLemmas.{agrees_goes}
use Rattle.esto_stores.specs.Rows.{Row}
use Rattle.esto_data.proofs.comparing.compare.Goals as goal

pub first_disagreement-requires-clause-many : goal.first_disagreement-requires-clause-many
first_disagreement-requires-clause-many c =
    contents_many c.args.catalogue.now c.requires.rows.0 c.args.coded.facts.texts c.args.rows c.requires.rows.1

pub first_disagreement-requires-clause-coded : goal.first_disagreement-requires-clause-coded
first_disagreement-requires-clause-coded c = let left = c.requires.facts.1.held.left in (left.loaded, left.stand)

pub returns-in_err-first_disagreement : goal.returns-in_err-first_disagreement
returns-in_err-first_disagreement c facts holds contents held = at_exit _ _ c.from_residual.result c.from_residual.ensures.1 (is_free refl)

pub returns-in-None : goal.returns-in-None
returns-in-None c facts holds contents held =
    let catalogue = c.args.catalogue.now in
    let left = holds.held.left in
    agrees_goes catalogue facts contents
    ((c.audits_are_over_files.ensures (rules_of catalogue.rules) (map written catalogue.rules) (names_of catalogue.fragments) (views_of catalogue.fragments)
    facts catalogue.stores contents held.rows None held.are.are).0
    (c.in_ok-first_disagreement.ensures.agree c.in-None.is left.loaded left.stand facts
    (left_enough catalogue c.args.trial.now c.requires.trial facts c.args.coded left) held.rows held.coded))

pub compare_by_fragment-requires-clause-facts : goal.compare_by_fragment-requires-clause-facts
compare_by_fragment-requires-clause-facts c =
    let facts = c.requires.facts.0 in
    let stays : Stays c.args.coded c.first_disagreement.new.coded =
    record { kept = c.in_ok-first_disagreement.ensures.kept; grown = c.in_ok-first_disagreement.ensures.grown } in
    let holds = audit_stays c.args.coded c.first_disagreement.new.coded stays c.args.catalogue.now c.args.trial.now.wanted c.args.files.now facts
    c.requires.facts.1 in
    (facts, holds.held.left, holds.texts)

pub compare_by_fragment-requires-clause-rows : goal.compare_by_fragment-requires-clause-rows
compare_by_fragment-requires-clause-rows c = (
  c.requires.rows.0,
  contents_grow c.args.catalogue.now c.requires.rows.0 c.args.coded.facts.texts c.args.rows c.requires.rows.1 c.first_disagreement.new.coded.facts.texts
      c.in_ok-first_disagreement.ensures.grown,
)

pub compare_by_fragment-requires-clause-there : goal.compare_by_fragment-requires-clause-there
compare_by_fragment-requires-clause-there c =
    let left = c.requires.facts.1.held.left in
    let held = c.requires.rows.1 in
    let found = rw c.in-Some-Rows.field-0-is at (rw c.in-Some-Rows.is at (c.in_ok-first_disagreement.ensures.found left.loaded
    left.stand held.rows held.coded)) in
    fragment_within c.args.catalogue.now.fragments c.in-Some-Rows.number found.1.within

pub returns-in-Some-Rows : goal.returns-in-Some-Rows
returns-in-Some-Rows c facts holds contents held =
    let left = holds.held.left in
    let found = rw c.in-Some-Rows.field-0-is at (rw c.in-Some-Rows.is at (c.in_ok-first_disagreement.ensures.found left.loaded
    left.stand held.rows held.coded)) in
    let catalogue = c.args.catalogue.now in
    let laws = rules_of c.args.trial.now.laws in
    let wanted = c.args.trial.now.wanted in
    let views = views_of catalogue.fragments in
    let number = c.in-Some-Rows.number in
    let new = c.first_disagreement.new.coded in
    let grown = c.in_ok-first_disagreement.ensures.grown in
    let stays : Stays c.args.coded new = record { kept = c.in_ok-first_disagreement.ensures.kept; grown = grown } in
    let later = audit_stays c.args.coded new stays catalogue wanted c.args.files.now facts holds in
    let same = audit_left c.args.coded new stays catalogue wanted c.args.files.now facts holds in
    c.compare_by_fragment.ensures facts later.held.left later.texts contents
    (contents_grow catalogue contents c.args.coded.facts.texts c.args.rows held new.facts.texts grown)
    (subst (λ (it : Loaded). ArePassed laws it.facts (rules_of catalogue.rules)) same found.0)
    (subst (λ (lists : List (List Row)). IsFirstUnlike views later.held.left.loaded.facts lists number)
    (contents_rows catalogue contents c.args.coded.facts.texts c.args.rows held new.facts.texts grown)
    (subst (λ (it : Loaded). IsFirstUnlike views it.facts held.rows number) same found.1))

pub compare_by_rule-requires-clause-facts : goal.compare_by_rule-requires-clause-facts
compare_by_rule-requires-clause-facts c =
    (c.requires.facts.0, to_audit c.args.catalogue.now c.args.trial.now.wanted c.args.files.now c.requires.facts.0 c.args.coded c.requires.facts.1)

pub compare_by_rule-requires-clause-there : goal.compare_by_rule-requires-clause-there
compare_by_rule-requires-clause-there c =
    let left = c.requires.facts.1.held.left in
    let held = c.requires.rows.1 in
    let first = rw c.in-Some-Rule.field-0-is at (rw c.in-Some-Rule.is at (c.in_ok-first_disagreement.ensures.found left.loaded
    left.stand held.rows held.coded)) in
    rule_within c.args.catalogue.now.rules c.in-Some-Rule.number first.rule first.there

pub returns-in-Some-Rule : goal.returns-in-Some-Rule
returns-in-Some-Rule c facts holds contents held =
    let left = holds.held.left in
    let first = rw c.in-Some-Rule.field-0-is at (rw c.in-Some-Rule.is at (c.in_ok-first_disagreement.ensures.found left.loaded
    left.stand held.rows held.coded)) in
    let catalogue = c.args.catalogue.now in
    let trial = c.args.trial.now in
    c.compare_by_rule.ensures facts left.loaded.facts (to_audit catalogue trial.wanted c.args.files.now facts c.args.coded holds)
    (left_enough catalogue trial c.requires.trial facts c.args.coded left) first contents
