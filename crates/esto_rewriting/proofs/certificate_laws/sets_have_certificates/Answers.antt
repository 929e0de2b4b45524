use Rattle.esto_rewriting.proofs.CertifiedLemmas.{contained_have_one, listed_have_one}
use Rattle.esto_rewriting.proofs.certificate_laws.sets_have_certificates.Goals as goal

pub returns-clause-contained : goal.returns-clause-contained
returns-clause-contained c =
    contained_have_one c.contained_sets_have_certificates.ensures c.catalogues_are_sound.ensures c.ranks_rise.ensures.rise c.ranks_rise.ensures.small
    c.planned_plans_have_their_form.ensures.form c.planned_plans_have_their_form.ensures.over c.planned_plans_are_universal.ensures.universal
    c.planned_plans_are_universal.ensures.satisfiable c.candidates_contain_the_query.ensures.equivalent

pub returns-clause-listed : goal.returns-clause-listed
returns-clause-listed c =
    listed_have_one c.contained_sets_have_certificates.ensures c.catalogues_are_sound.ensures c.ranks_rise.ensures.rise c.ranks_rise.ensures.small
    c.planned_plans_have_their_form.ensures.form c.planned_plans_have_their_form.ensures.over c.planned_plans_are_universal.ensures.universal
    c.planned_plans_are_universal.ensures.satisfiable c.candidates_contain_the_query.ensures.equivalent c.chosen_items_are_listed.ensures.item
