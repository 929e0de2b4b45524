use Rattle.esto_universal.proofs.PlannedLemmas.{planned_receives, planned_universal}
use Rattle.esto_universal.proofs.planned.plans_of_runs_are_universal.Goals as goal

pub returns-clause-unions : goal.returns-clause-unions
returns-clause-unions c rules views names query plan are_rules is_query planned =
    planned_receives c.states_are_universal.ensures.query rules views names query plan are_rules is_query planned c.stated_plans_are_universal.ensures.unions

pub returns-clause-universal : goal.returns-clause-universal
returns-clause-universal c rules views names query plan are_rules is_query planned =
    planned_universal c.states_are_universal.ensures.query rules views names query plan are_rules is_query planned
    c.stated_plans_are_universal.ensures.universal
