use Rattle.esto_rewriting.proofs.PrintedLemmas.{printed_plan-one}
use Rattle.esto_rewriting.proofs.printed.printed_plans_are_one.Goals as goal

pub returns-clause-plan : goal.returns-clause-plan
returns-clause-plan c = printed_plan-one c.runs_have_one_outcome.ensures.plan c.cored_plans_are_determined.ensures

pub returns-clause-apart : goal.returns-clause-apart
returns-clause-apart c core rules views names query plan clash are_rules printed =
    c.runs_have_one_outcome.ensures.apart rules views names query printed.stated clash are_rules printed.of_run
