use Rattle.esto_top.proofs.CommandLemmas.{answer_ends, audit_ends, contains_ends, minimise_ends, verify_ends}
use Rattle.esto_top.proofs.ExplainEndLemmas.{explain_ends}
use Rattle.esto_top.proofs.FillLemmas.{make_ends}
use Rattle.esto_top.proofs.ends.commands_come_to_an_end.Goals as goal

pub returns-clause-answer : goal.returns-clause-answer
returns-clause-answer c = λ files catalogue_name query_name.
    answer_ends c.reading_laws_hold.ensures c.laws_below_hold.ensures files catalogue_name query_name

pub returns-clause-fill : goal.returns-clause-fill
returns-clause-fill c = λ files catalogue_name name. make_ends c.laws_below_hold.ensures c.reading_laws_hold.ensures files catalogue_name name

pub returns-clause-audit : goal.returns-clause-audit
returns-clause-audit c = λ files catalogue_name.
    audit_ends c.reading_laws_hold.ensures c.laws_below_hold.ensures files catalogue_name c.rules_are_decided.ensures.decided
    c.databases_stand_for_facts.ensures.rules

pub returns-clause-contains : goal.returns-clause-contains
returns-clause-contains c = λ files catalogue_name left_name right_name.
    contains_ends c.reading_laws_hold.ensures c.laws_below_hold.ensures files catalogue_name c.reasoning_laws_hold.ensures left_name right_name

pub returns-clause-minimise : goal.returns-clause-minimise
returns-clause-minimise c = λ files catalogue_name query_name.
    minimise_ends c.reading_laws_hold.ensures c.laws_below_hold.ensures files catalogue_name c.reasoning_laws_hold.ensures query_name

pub returns-clause-verify : goal.returns-clause-verify
returns-clause-verify c = λ files catalogue_name query_name numbers file.
    verify_ends c.reading_laws_hold.ensures c.laws_below_hold.ensures files catalogue_name query_name numbers file

pub returns-clause-explain : goal.returns-clause-explain
returns-clause-explain c = λ files catalogue_name query_name number.
    explain_ends c.reading_laws_hold.ensures c.laws_below_hold.ensures c.chosen_items_are_listed.ensures.place c.sets_have_certificates.ensures.listed files
    catalogue_name query_name number
