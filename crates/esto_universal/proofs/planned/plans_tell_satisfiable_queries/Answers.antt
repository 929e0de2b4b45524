use Rattle.esto_universal.proofs.PlannedLemmas.{planned_satisfiable}
use Rattle.esto_universal.proofs.planned.plans_tell_satisfiable_queries.Goals as goal

pub returns-clause-plan : goal.returns-clause-plan
returns-clause-plan c rules views names query plan are_rules is_query planned =
    planned_satisfiable c.finished_runs_decide.ensures.alike c.queries_have_starts.ensures.start rules query are_rules is_query
    c.finished_runs_decide.ensures.satisfiable views names plan planned

pub returns-clause-clash : goal.returns-clause-clash
returns-clause-clash c = c.clashed_queries_are_unsatisfiable.ensures
