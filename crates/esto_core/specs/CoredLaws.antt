-- Laws of cored plans.
use Rattle.std.specs.Prelude.{◌≡◌, List, length}
use Rattle.esto_semantics.specs.Instances.{MapsTo}
use Rattle.esto_semantics.specs.Plans.{IsUniversalPlan}
use Rattle.esto_semantics.specs.Queries.{ConjunctiveQuery}
use Rattle.esto_semantics.specs.Rules.{Rule}
use Rattle.esto_semantics.specs.Unions.{ReceivesUnions}
use Rattle.esto_semantics.specs.Cores.{IsCore, HasNoRetract}
use Rattle.esto_views.specs.Plans.{plan_query, IsPlanOver}
use Rattle.esto_views.specs.declared.fragments.FragmentDef.{FragmentDef}
use Rattle.esto_views.specs.declared.plan.Plan.{Plan}
use Rattle.esto_core.specs.Cored.{IsCoredPlan, IsPart, IsOnlyCore}

-- The cored plan is some of the plan's atoms, in order, under new names.
abbrev pub CoredIsPart : Type 0
CoredIsPart = (plan cored : Plan) → IsCoredPlan plan cored → IsPart plan cored

-- The cored plan is a core.
abbrev pub CoredIsCore : Type 0
CoredIsCore = (plan cored : Plan) → IsCoredPlan plan cored → IsCore (plan_query cored)

-- The cored plan retracts into no proper sublist of itself.
abbrev pub CoredHasNoRetract : Type 0
CoredHasNoRetract = (plan cored : Plan) → IsCoredPlan plan cored → HasNoRetract (plan_query cored)

-- The plan maps, head to head, to the cored plan.
abbrev pub MapsToCored : Type 0
MapsToCored = (plan cored : Plan) → IsCoredPlan plan cored → MapsTo (plan_query plan) (plan_query cored)

-- The cored plan maps, head to head, to the plan.
abbrev pub CoredMapsBack : Type 0
CoredMapsBack = (plan cored : Plan) → IsCoredPlan plan cored → MapsTo (plan_query cored) (plan_query plan)

-- The cored plan is over the fragments that the plan is over.
abbrev pub CoredIsOver : Type 0
CoredIsOver =
    (plan cored : Plan) (fragments : List FragmentDef) → IsCoredPlan plan cored → IsPlanOver plan fragments → IsPlanOver cored fragments

-- The cored plan of a universal plan of a query is one.
abbrev pub CoredIsUniversal : Type 0
CoredIsUniversal =
    (rules : List Rule) (views : List ConjunctiveQuery) (query : ConjunctiveQuery) (plan cored : Plan)
    → IsCoredPlan plan cored → IsUniversalPlan rules views query (plan_query plan) → IsUniversalPlan rules views query (plan_query cored)

-- The cored plan of a plan that receives unions for a query does so too.
abbrev pub CoredReceivesUnions : Type 0
CoredReceivesUnions =
    (rules : List Rule) (views : List ConjunctiveQuery) (query : ConjunctiveQuery) (plan cored : Plan)
    → IsCoredPlan plan cored → ReceivesUnions rules views query (plan_query plan) → ReceivesUnions rules views query (plan_query cored)

-- There is one cored plan.
abbrev pub CoredIsOne : Type 0
CoredIsOne =
    (plan cored other : Plan) → IsCoredPlan plan cored → IsCoredPlan plan other → (plan_query cored ≡ plan_query other) × (cored.names ≡ other.names)

-- The cored plan of a universal plan of a query is the only core for the query.
abbrev pub CoredIsOneForAQuery : Type 0
CoredIsOneForAQuery =
    (rules : List Rule) (views : List ConjunctiveQuery) (query : ConjunctiveQuery) (plan cored : Plan)
    → length plan.head ≡ length query.head → IsUniversalPlan rules views query (plan_query plan) → IsCoredPlan plan cored
    → IsOnlyCore rules views query (plan_query cored)
