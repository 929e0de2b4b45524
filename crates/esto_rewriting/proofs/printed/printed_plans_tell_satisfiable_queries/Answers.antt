use Rattle.esto_rewriting.proofs.printed.printed_plans_tell_satisfiable_queries.Goals as goal

pub returns : goal.returns
returns c core rules views names query plan are_rules is_query printed =
    c.plans_tell_satisfiable_queries.ensures.plan rules views names query printed.stated are_rules is_query printed.of_run
