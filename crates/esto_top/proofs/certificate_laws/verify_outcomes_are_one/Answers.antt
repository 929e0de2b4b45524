use Rattle.esto_top.proofs.VerifyAlikeLemmas.{verify_one}
use Rattle.esto_top.proofs.certificate_laws.verify_outcomes_are_one.Goals as goal

pub returns : goal.returns
returns c files catalogue_name query_name numbers file =
    verify_one c.sets_are_ordered.ensures.numbers c.verdicts_are_one.ensures c.plans_and_lists_are_one.ensures.plan files numbers file
    c.openings_are_one.ensures.catalogues c.openings_are_one.ensures.queries catalogue_name query_name
