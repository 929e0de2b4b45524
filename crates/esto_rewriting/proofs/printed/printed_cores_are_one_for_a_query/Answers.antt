use Rattle.esto_views.specs.Plans.{plan_query}
use Rattle.esto_core.proofs.CoredLemmas.{plan-IsPlanFor}
use Rattle.esto_rewriting.proofs.PrintedLemmas.{same_length-received}
use Rattle.esto_rewriting.proofs.printed.printed_cores_are_one_for_a_query.Goals as goal

pub returns : goal.returns
returns c core rules views names query plan are_rules is_query asked printed safe has_atoms other flat other_universal no_retract =
    c.cores_are_one.ensures rules views query (plan_query plan) other
    (plan-IsPlanFor query plan (c.plans_are_sound.ensures plan)
    (same_length-received rules views query (plan_query plan) (c.queries_are_their_own_instances.ensures.universal (plan_query plan)).maps
    (c.printed_plans_are_universal.ensures.unions core rules views names query plan are_rules is_query printed)
    (c.printed_plans_tell_satisfiable_queries.ensures core rules views names query plan are_rules is_query printed)))
    safe has_atoms flat (c.printed_plans_are_universal.ensures.universal core rules views names query plan are_rules is_query printed) other_universal
    ((c.cores_have_no_retract.ensures.same (plan_query plan)).1
    (c.printed_plans_are_universal.ensures.core core rules views names query plan asked printed))
    ((c.cores_have_no_retract.ensures.same other).1 no_retract)
