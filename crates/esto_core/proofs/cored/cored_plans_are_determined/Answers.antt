use Rattle.esto_core.proofs.CoredLemmas.{cored-one}
use Rattle.esto_core.proofs.cored.cored_plans_are_determined.Goals as goal

pub returns : goal.returns
returns c = cored-one c.what_is_left_is_a_core.ensures.one c.renamed_plans_are_one.ensures.one
