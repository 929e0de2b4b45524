use Rattle.esto_top.proofs.ExplainStatusLemmas.{explain_status}
use Rattle.esto_top.proofs.certificate_laws.explain_has_one_status.Goals as goal

pub returns : goal.returns
returns c =
    explain_status c.openings_are_one.ensures.catalogues c.openings_are_one.ensures.queries c.plans_and_lists_are_one.ensures.plan
    c.plans_and_lists_are_one.ensures.list c.plans_and_lists_are_one.ensures.choice
