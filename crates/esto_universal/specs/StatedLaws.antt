-- Laws of stated plans.
use Rattle.std.specs.Prelude.{◌≡◌, ◌≢◌, List, AllPairs}
use Rattle.esto_semantics.specs.Instances.{IsUniversalFor, IsFinished}
use Rattle.esto_semantics.specs.PlanOf.{IsPlanOf}
use Rattle.esto_semantics.specs.Plans.{IsUniversalPlan}
use Rattle.esto_semantics.specs.Queries.{ConjunctiveQuery}
use Rattle.esto_semantics.specs.Rules.{Rule, AreRules}
use Rattle.esto_semantics.specs.Unions.{ReceivesUnions}
use Rattle.esto_query.specs.declared.query.Name.{Name}
use Rattle.esto_views.specs.Plans.{plan_query}
use Rattle.esto_views.specs.declared.plan.Plan.{Plan}
use Rattle.esto_universal.specs.Stated.{IsStatedPlan}

-- There is one stated plan.
abbrev pub StatedPlanIsOne : Type 0
StatedPlanIsOne =
    (names : List Name) (views : List ConjunctiveQuery) (end : ConjunctiveQuery) (plan other : Plan)
    → IsStatedPlan names views end plan → IsStatedPlan names views end other
    → (plan_query plan ≡ plan_query other) × (plan.names ≡ other.names)

-- The atoms of a stated plan are distinct.
abbrev pub StatedAtomsAreDistinct : Type 0
StatedAtomsAreDistinct =
    (names : List Name) (views : List ConjunctiveQuery) (end : ConjunctiveQuery) (plan : Plan)
    → IsStatedPlan names views end plan → AllPairs ◌≢◌ (plan_query plan).body

-- A plan that is stated for an end is a plan of its rows.
abbrev pub StatedPlanIsOfRows : Type 0
StatedPlanIsOfRows =
    (names : List Name) (views : List ConjunctiveQuery) (end : ConjunctiveQuery) (plan : Plan)
    → IsStatedPlan names views end plan → IsPlanOf views end (plan_query plan)

-- Where an instance is universal for a query under the rules, and meets the rules itself, the plan that is stated for it receives unions for the query.
abbrev pub StatedPlanReceivesUnions : Type 0
StatedPlanReceivesUnions =
    (rules : List Rule) (names : List Name) (views : List ConjunctiveQuery) (query end : ConjunctiveQuery) (plan : Plan)
    → AreRules rules → IsUniversalFor rules query end → IsFinished rules end → IsStatedPlan names views end plan
    → ReceivesUnions rules views query (plan_query plan)

-- Such a plan is universal for the query.
abbrev pub StatedPlanIsUniversal : Type 0
StatedPlanIsUniversal =
    (rules : List Rule) (names : List Name) (views : List ConjunctiveQuery) (query end : ConjunctiveQuery) (plan : Plan)
    → AreRules rules → IsUniversalFor rules query end → IsFinished rules end → IsStatedPlan names views end plan
    → IsUniversalPlan rules views query (plan_query plan)
