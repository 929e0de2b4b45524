use Rattle.esto_top.proofs.laws.steps_hold.Goals as goal

pub returns : goal.returns
returns c = record {
  catalogue = c.files_are_opened.ensures.catalogue;
  union = c.files_are_opened.ensures.union;
  formed = c.opened_unions_are_queries.ensures.union;
  plans = c.queries_have_plans_or_clashes.ensures.plans;
  ends = c.queries_have_plans_or_clashes.ensures.ends;
  lists = c.plans_have_lists.ensures.list;
  texts = c.plans_have_lists.ensures.text;
  chosen = c.plans_have_lists.ensures.chosen;
  place = c.chosen_items_are_listed.ensures.place;
  item = c.chosen_items_are_listed.ensures.item;
  fragments = c.sets_are_run.ensures.fragments;
  opened = c.sets_are_run.ensures.opened;
  rows = c.sets_are_run.ensures.rows;
  union_list = c.unions_are_listed_and_run.ensures.list;
  union_run = c.unions_are_listed_and_run.ensures.run;
  answer = c.commands_come_to_an_end.ensures.answer;
  fill = c.commands_come_to_an_end.ensures.fill;
  audit = c.commands_come_to_an_end.ensures.audit;
  contains = c.commands_come_to_an_end.ensures.contains;
  minimise = c.commands_come_to_an_end.ensures.minimise;
  verify = c.commands_come_to_an_end.ensures.verify;
  explain = c.commands_come_to_an_end.ensures.explain;
  summary = c.cases_have_summaries.ensures;
}
