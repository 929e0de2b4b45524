use Rattle.std.proofs.Common.{◌≢◌}
use Rattle.std.specs.Prelude.{AllPairs}
use Rattle.esto_views.specs.Plans.{plan_query, IsPlanOver}
use Rattle.esto_rewriting.proofs.PrintedLemmas.{printed-keeps, cored-distinct}
use Rattle.esto_rewriting.proofs.printed.printed_plans_are_over_fragments.Goals as goal

pub returns-clause-over : goal.returns-clause-over
returns-clause-over c core rules fragments names query plan are_fragments printed =
    printed-keeps (λ it. IsPlanOver it fragments) core printed.stated plan
    (λ cored is_cored. c.cored_plans_are_universal.ensures.over printed.stated cored fragments is_cored) printed.printed
    (c.plans_of_runs_are_over_fragments.ensures.over rules fragments names query printed.stated are_fragments printed.of_run)

pub returns-clause-distinct : goal.returns-clause-distinct
returns-clause-distinct c core rules views names query plan printed =
    printed-keeps (λ it. AllPairs ◌≢◌ (plan_query it).body) core printed.stated plan
    (λ cored is_cored distinct.
    cored-distinct c.cored_plans_are_cores.ensures.core c.cores_have_no_retract.ensures.distinct printed.stated cored is_cored) printed.printed
    (c.plans_of_runs_are_over_fragments.ensures.distinct rules views names query printed.stated printed.of_run)
