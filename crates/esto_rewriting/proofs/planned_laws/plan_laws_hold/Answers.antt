use Rattle.esto_rewriting.proofs.planned_laws.plan_laws_hold.Goals as goal

pub returns : goal.returns
returns c = record {
  rules = c.rules_are_sound.ensures.rules;
  plan = c.printed_plans_are_one.ensures.plan;
  clash = c.runs_have_one_outcome.ensures.clash;
  apart = c.printed_plans_are_one.ensures.apart;
  sets = c.listed_sets_are_minimal.ensures.one;
  orders = c.stated_orders_exist.ensures.one;
  weights = c.weights_exist.ensures.one;
  picks = c.picks_exist.ensures.one;
}
