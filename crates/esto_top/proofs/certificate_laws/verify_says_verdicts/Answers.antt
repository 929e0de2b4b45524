use Rattle.esto_top.proofs.VerifyVerdictLemmas.{says_verdicts}
use Rattle.esto_top.proofs.certificate_laws.verify_says_verdicts.Goals as goal

pub returns : goal.returns
returns c =
    says_verdicts c.openings_are_one.ensures.catalogues c.openings_are_one.ensures.queries c.plans_and_lists_are_one.ensures.plan
    c.sets_are_ordered.ensures.numbers c.verdicts_are_one.ensures
