use Rattle.esto_fill.proofs.AuditLemmas.{audits_are_one}
use Rattle.esto_fill.proofs.LawLemmas.{answers_are_one, facts_are_one, faults_are_one, fills_are_one, judgements_are_one, readable_have_none}
use Rattle.esto_fill.proofs.LawLemmas.{union_answers_are_one}
use Rattle.esto_fill.proofs.laws.outcomes_are_one.Goals as goal

pub returns : goal.returns
returns c = record {
  facts = facts_are_one;
  faults = faults_are_one;
  readable = readable_have_none;
  answers = answers_are_one c.rising_rows_are_one.ensures;
  unions = union_answers_are_one c.rising_rows_are_one.ensures;
  judgements = judgements_are_one;
  fills = fills_are_one c.rising_rows_are_one.ensures;
  audits = audits_are_one c.databases_stand_for_facts.ensures.rules;
}
