use Rattle.esto_universal.proofs.PlannedLemmas.{planned_over}
use Rattle.esto_universal.proofs.planned.plans_of_runs_are_over_fragments.Goals as goal

pub returns-clause-over : goal.returns-clause-over
returns-clause-over c = planned_over

pub returns-clause-distinct : goal.returns-clause-distinct
returns-clause-distinct c rules views names query plan planned = c.stated_plans_have_distinct_atoms.ensures names views planned.end plan planned.stated
