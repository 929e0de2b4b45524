use Rattle.esto_views.specs.Plans.{plan_query}
use Rattle.esto_core.proofs.CoredLemmas.{cored-there, cored-back, over-back}
use Rattle.esto_core.proofs.cored.cored_plans_are_universal.Goals as goal

pub returns-clause-there : goal.returns-clause-there
returns-clause-there c plan cored is_cored =
    cored-there plan cored is_cored c.what_is_left_is_a_core.ensures.there c.renamed_plans_are_one.ensures.renamed c.renamed_plans_are_alike.ensures.there
    c.maps_between_plans_compose.ensures

pub returns-clause-back : goal.returns-clause-back
returns-clause-back c plan cored is_cored =
    cored-back plan cored is_cored c.what_is_left_is_a_core.ensures.back c.renamed_plans_are_one.ensures.renamed c.renamed_plans_are_alike.ensures.back
    c.maps_between_plans_compose.ensures

pub returns-clause-over : goal.returns-clause-over
returns-clause-over c plan cored fragments is_cored =
    over-back plan cored fragments
    (cored-back plan cored is_cored c.what_is_left_is_a_core.ensures.back c.renamed_plans_are_one.ensures.renamed c.renamed_plans_are_alike.ensures.back
    c.maps_between_plans_compose.ensures)

pub returns-clause-universal : goal.returns-clause-universal
returns-clause-universal c rules views query plan cored is_cored =
    c.plans_that_map_to_each_other_are_universal_alike.ensures rules views query (plan_query plan) (plan_query cored)
    (cored-there plan cored is_cored c.what_is_left_is_a_core.ensures.there c.renamed_plans_are_one.ensures.renamed c.renamed_plans_are_alike.ensures.there
    c.maps_between_plans_compose.ensures)
    (cored-back plan cored is_cored c.what_is_left_is_a_core.ensures.back c.renamed_plans_are_one.ensures.renamed c.renamed_plans_are_alike.ensures.back
    c.maps_between_plans_compose.ensures)

pub returns-clause-unions : goal.returns-clause-unions
returns-clause-unions c rules views query plan cored is_cored =
    c.plans_receive_unions.ensures.alike rules views query (plan_query plan) (plan_query cored)
    (cored-there plan cored is_cored c.what_is_left_is_a_core.ensures.there c.renamed_plans_are_one.ensures.renamed c.renamed_plans_are_alike.ensures.there
    c.maps_between_plans_compose.ensures)
    (cored-back plan cored is_cored c.what_is_left_is_a_core.ensures.back c.renamed_plans_are_one.ensures.renamed c.renamed_plans_are_alike.ensures.back
    c.maps_between_plans_compose.ensures)
