use Rattle.esto_data.proofs.laws.data_laws_hold.Goals as goal

pub returns : goal.returns
returns c = record {
  rules = c.rules_are_sound.ensures.rules;
  fragment = c.fragment_files_are_one.ensures.fragment;
  fragments = c.fragment_files_are_one.ensures.fragments;
  file = c.fragment_files_are_one.ensures.file;
  fault = c.fragment_files_are_one.ensures.fault;
  rows = c.fragment_files_are_one.ensures.rows;
  facts = c.outcomes_are_one.ensures.facts;
  answers = c.outcomes_are_one.ensures.unions;
  judgements = c.outcomes_are_one.ensures.judgements;
  fills = c.outcomes_are_one.ensures.fills;
  audits = c.outcomes_are_one.ensures.audits;
}
