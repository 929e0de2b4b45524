use Rattle.esto_top.proofs.below.list_laws_hold.Goals as goal

pub returns : goal.returns
returns c = record {
  form = c.planned_plans_have_their_form.ensures.form;
  over = c.planned_plans_have_their_form.ensures.over;
  universal = c.planned_plans_are_universal.ensures.universal;
  answers = c.an_expansion_means_the_same.ensures.answers;
  contained = c.an_expansion_means_the_same.ensures.contained;
  contained_in_union = c.an_expansion_means_the_same.ensures.contained_in_union;
  expansions = c.queries_over_fragments_have_expansions.ensures;
  equivalent = c.candidates_contain_the_query.ensures.equivalent;
  part = c.executable_sets_unite.ensures.part;
  part_is_one = c.executable_sets_unite.ensures.one;
  own_part = c.executable_sets_unite.ensures.own;
  sets = c.all_sets_are_listed.ensures;
  minimal = c.minimal_sets_cover.ensures.exist;
  orders = c.stated_orders_exist.ensures.exist;
  weights = c.weights_exist.ensures.exist;
  picks = c.picks_exist.ensures.exist;
}
