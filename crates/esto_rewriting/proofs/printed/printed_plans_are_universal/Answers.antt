use Rattle.esto_semantics.specs.Plans.{IsUniversalPlan}
use Rattle.esto_semantics.specs.Unions.{ReceivesUnions}
use Rattle.esto_views.specs.Plans.{plan_query}
use Rattle.esto_rewriting.proofs.PrintedLemmas.{printed-keeps, printed-no_retract}
use Rattle.esto_rewriting.proofs.printed.printed_plans_are_universal.Goals as goal

pub returns-clause-unions : goal.returns-clause-unions
returns-clause-unions c core rules views names query plan are_rules is_query printed =
    printed-keeps (λ it. ReceivesUnions rules views query (plan_query it)) core printed.stated plan
    (λ cored is_cored. c.cored_plans_are_universal.ensures.unions rules views query printed.stated cored is_cored) printed.printed
    (c.plans_of_runs_are_universal.ensures.unions rules views names query printed.stated are_rules is_query printed.of_run)

pub returns-clause-universal : goal.returns-clause-universal
returns-clause-universal c core rules views names query plan are_rules is_query printed =
    printed-keeps (λ it. IsUniversalPlan rules views query (plan_query it)) core printed.stated plan
    (λ cored is_cored. c.cored_plans_are_universal.ensures.universal rules views query printed.stated cored is_cored) printed.printed
    (c.plans_of_runs_are_universal.ensures.universal rules views names query printed.stated are_rules is_query printed.of_run)

pub returns-clause-core : goal.returns-clause-core
returns-clause-core c core rules views names query plan asked printed =
    printed-no_retract c.cored_plans_are_cores.ensures.no_retract core printed.stated plan asked printed.printed
