use Rattle.esto_top.proofs.below.kept_laws_hold.Goals as goal

pub returns : goal.returns
returns c = record {
  catalogues = c.catalogues_are_sound.ensures;
  rules = c.rules_are_sound.ensures.rules;
  queries = c.queries_are_sound.ensures;
  plans = c.plans_are_sound.ensures;
  fit = c.plans_fit_views.ensures;
}
