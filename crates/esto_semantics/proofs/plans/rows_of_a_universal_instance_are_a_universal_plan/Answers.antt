use Rattle.esto_semantics.proofs.PlanLemmas.{plan_is_universal}
use Rattle.esto_semantics.proofs.plans.rows_of_a_universal_instance_are_a_universal_plan.Goals as goal

pub returns : goal.returns
returns c rules views query end plan are_rules universal finished is_plan other shape lengths =
    plan_is_universal views end plan is_plan rules query other are_rules universal finished
