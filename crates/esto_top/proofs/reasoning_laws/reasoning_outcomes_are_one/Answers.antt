use Rattle.esto_top.proofs.ReasoningLeadLemmas.{contains_one, minimise_one}
use Rattle.esto_top.proofs.reasoning_laws.reasoning_outcomes_are_one.Goals as goal

pub returns-clause-contains : goal.returns-clause-contains
returns-clause-contains c files catalogue_name =
    contains_one c.openings_are_one.ensures.catalogues c.openings_are_one.ensures.queries files catalogue_name c.reasoned_texts_are_one.ensures.compared

pub returns-clause-minimise : goal.returns-clause-minimise
returns-clause-minimise c files catalogue_name =
    minimise_one c.openings_are_one.ensures.catalogues c.openings_are_one.ensures.queries files catalogue_name c.reasoned_texts_are_one.ensures.minimised
