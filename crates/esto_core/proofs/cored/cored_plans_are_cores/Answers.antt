use Rattle.esto_views.specs.Plans.{plan_query}
use Rattle.esto_core.proofs.CoredLemmas.{cored-IsCore, cored-IsPart}
use Rattle.esto_core.proofs.cored.cored_plans_are_cores.Goals as goal

pub returns-clause-part : goal.returns-clause-part
returns-clause-part c plan cored is_cored = cored-IsPart plan cored is_cored c.what_is_left_is_a_core.ensures.part

pub returns-clause-core : goal.returns-clause-core
returns-clause-core c plan cored is_cored =
    cored-IsCore plan cored is_cored c.what_is_left_is_a_core.ensures.core c.renamed_plans_are_one.ensures.renamed c.renamed_plans_are_alike.ensures.core

pub returns-clause-no_retract : goal.returns-clause-no_retract
returns-clause-no_retract c plan cored is_cored =
    (c.cores_have_no_retract.ensures.same (plan_query cored)).0
    (cored-IsCore plan cored is_cored c.what_is_left_is_a_core.ensures.core c.renamed_plans_are_one.ensures.renamed c.renamed_plans_are_alike.ensures.core)
