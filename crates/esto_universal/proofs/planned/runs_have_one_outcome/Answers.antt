use Rattle.esto_universal.proofs.PlannedLemmas.{one_plan_of_run, one_clash_of_run, plan_excludes_clash}
use Rattle.esto_universal.proofs.planned.runs_have_one_outcome.Goals as goal

pub returns-clause-plan : goal.returns-clause-plan
returns-clause-plan c rules views names query plan other are_rules planned again =
    one_plan_of_run c.runs_have_one_end.ensures.state rules query are_rules c.stated_plans_are_one.ensures views names plan other planned again

pub returns-clause-clash : goal.returns-clause-clash
returns-clause-clash c rules query clash other are_rules clashes again =
    one_clash_of_run c.runs_have_one_end.ensures.state rules query are_rules c.runs_have_one_end.ensures.clash clash other clashes again

pub returns-clause-apart : goal.returns-clause-apart
returns-clause-apart c rules views names query plan clash are_rules planned clashes =
    plan_excludes_clash c.runs_have_one_end.ensures.state rules query are_rules c.runs_have_one_end.ensures.apart views names plan clash planned clashes
