use Rattle.esto_semantics.proofs.StandingLemmas.{standing_exists, standing_facts_exist, rules_stand, finished_stands, answers_stand, view_rows_are_standing}
use Rattle.esto_semantics.proofs.StandingLemmas.{fragment_answers_stand}
use Rattle.esto_semantics.proofs.standing.databases_stand_for_facts.Goals as goal

pub returns : goal.returns
returns c = record {
  exist = standing_exists;
  facts_exist = standing_facts_exist;
  rules = rules_stand;
  finished = finished_stands;
  answers = answers_stand;
  view_rows = view_rows_are_standing;
  fragment_answers = fragment_answers_stand;
}
