use Rattle.esto_views.specs.Plans.{plan_query}
use Rattle.esto_universal.proofs.PlanLemmas.{plan_of}
use Rattle.esto_universal.proofs.stated.stated_plans_are_universal.Goals as goal

pub returns-clause-rows : goal.returns-clause-rows
returns-clause-rows c = plan_of

pub returns-clause-unions : goal.returns-clause-unions
returns-clause-unions c = λ rules names views query end plan are_rules universal finished stated.
    c.plans_receive_unions.ensures.rows rules views query end (plan_query plan) are_rules universal finished (plan_of names views end plan stated)

pub returns-clause-universal : goal.returns-clause-universal
returns-clause-universal c = λ rules names views query end plan are_rules universal finished stated.
    c.plans_receive_unions.ensures.universal rules views query (plan_query plan)
    (c.plans_receive_unions.ensures.rows rules views query end (plan_query plan) are_rules universal finished (plan_of names views end plan stated))
