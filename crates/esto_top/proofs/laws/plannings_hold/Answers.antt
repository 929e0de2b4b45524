use Rattle.esto_top.proofs.laws.plannings_hold.Goals as goal

pub returns : goal.returns
returns c = record {
  item = c.chosen_items_are_listed.ensures.item;
  plan_moved = c.plans_and_lists_are_moved.ensures.plan;
  clash_moved = c.plans_and_lists_are_moved.ensures.clash;
  list_moved = c.plans_and_lists_are_moved.ensures.list;
  text_moved = c.plans_and_lists_are_moved.ensures.text;
  end = c.plans_and_lists_are_one.ensures.end;
  plan = c.plans_and_lists_are_one.ensures.plan;
  list = c.plans_and_lists_are_one.ensures.list;
  text = c.plans_and_lists_are_one.ensures.text;
  choice = c.plans_and_lists_are_one.ensures.choice;
}
