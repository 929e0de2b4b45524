use Rattle.esto_top.proofs.laws.listings_hold.Goals as goal

pub returns : goal.returns
returns c = record {
  planning = c.plannings_hold.ensures;
  form = c.planned_plans_have_their_form.ensures.form;
  universal = c.planned_plans_are_universal.ensures.universal;
  core = c.planned_plans_are_universal.ensures.core;
  only_core = c.planned_plans_are_universal.ensures.only_core;
  satisfiable = c.planned_plans_are_universal.ensures.satisfiable;
  unsatisfiable = c.planned_plans_are_universal.ensures.unsatisfiable;
  covers = c.listed_sets_cover_rewritings.ensures;
  none = c.listed_sets_are_minimal.ensures.no_rewriting;
  lightest = c.picks_exist.ensures.least_of_all;
}
