use Rattle.esto_top.proofs.below.reasoning_laws_hold.Goals as goal

pub returns : goal.returns
returns c = record {
  decide = c.finished_runs_decide.ensures.contained;
  universal = c.states_are_universal.ensures.query;
  part_contains = c.parts_of_an_instance_contain_the_query.ensures.contains;
  part_is_equivalent = c.parts_of_an_instance_contain_the_query.ensures.equivalent;
  compose = c.maps_between_plans_compose.ensures;
  is_renamed = c.renamed_plans_are_one.ensures.renamed;
  reached = c.renamed_plans_are_alike.ensures.there;
  back = c.renamed_plans_are_alike.ensures.back;
}
