use Rattle.std.proofs.Common.{◌∙◌}
use Rattle.esto_views.specs.Plans.{plan_query}
use Rattle.esto_core.proofs.CoredLemmas.{plan-IsPlanFor, same_length-there}
use Rattle.esto_core.proofs.cored.cored_plans_are_one_for_a_query.Goals as goal

pub returns : goal.returns
returns c rules views query plan cored lengths universal is_cored safe has_atoms other flat other_universal no_retract =
    c.cores_are_one.ensures rules views query (plan_query cored) other
    (plan-IsPlanFor query cored (c.plans_are_sound.ensures cored)
    (same_length-there plan cored (c.cored_plans_are_universal.ensures.there plan cored is_cored) ∙ lengths))
    safe has_atoms flat (c.cored_plans_are_universal.ensures.universal rules views query plan cored is_cored universal) other_universal
    (c.cored_plans_are_cores.ensures.core plan cored is_cored) ((c.cores_have_no_retract.ensures.same other).1 no_retract)
