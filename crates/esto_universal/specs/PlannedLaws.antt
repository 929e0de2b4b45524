-- Laws of the plans of runs.
use Rattle.std.specs.Prelude.{◌≡◌, ◌≢◌, List, AllPairs}
use Rattle.esto_semantics.specs.Containment.{IsSatisfiable}
use Rattle.esto_semantics.specs.Plans.{IsUniversalPlan}
use Rattle.esto_semantics.specs.Queries.{ConjunctiveQuery, IsQuery}
use Rattle.esto_semantics.specs.Rules.{Rule, AreRules}
use Rattle.esto_semantics.specs.Unions.{ReceivesUnions}
use Rattle.esto_query.specs.declared.query.Name.{Name}
use Rattle.esto_views.specs.Fragments.{views_of, AreFragments}
use Rattle.esto_views.specs.Plans.{plan_query, IsPlanOver}
use Rattle.esto_views.specs.declared.fragments.FragmentDef.{FragmentDef}
use Rattle.esto_views.specs.declared.plan.Plan.{Plan}
use Rattle.esto_chase_laws.specs.Runs.{start_of}
use Rattle.esto_chase_laws.specs.declared.clash.Clash.{Clash}
use Rattle.esto_chase.specs.Chased.{RunClashes}
use Rattle.esto_universal.specs.Planned.{IsPlanOfRun}

-- The plans of a query's runs are one.
abbrev pub PlanOfRunIsOne : Type 0
PlanOfRunIsOne =
    (rules : List Rule) (views : List ConjunctiveQuery) (names : List Name) (query : ConjunctiveQuery) (plan other : Plan) → AreRules rules
    → IsPlanOfRun rules views names query plan → IsPlanOfRun rules views names query other
    → (plan_query plan ≡ plan_query other) × (plan.names ≡ other.names)

-- The clashes of a query's runs are one.
abbrev pub ClashOfRunIsOne : Type 0
ClashOfRunIsOne =
    (rules : List Rule) (query : ConjunctiveQuery) (clash other : Clash) → AreRules rules
    → RunClashes rules (start_of query) clash → RunClashes rules (start_of query) other → clash ≡ other

-- A query has no plan of a run where its run clashes, nor does its run clash where it has a plan.
abbrev pub PlanExcludesClash : Type 0
PlanExcludesClash =
    (rules : List Rule) (views : List ConjunctiveQuery) (names : List Name) (query : ConjunctiveQuery) (plan : Plan) (clash : Clash) → AreRules rules
    → IsPlanOfRun rules views names query plan → ¬ (RunClashes rules (start_of query) clash)

-- A query that has a plan of a run is satisfiable.
abbrev pub PlannedIsSatisfiable : Type 0
PlannedIsSatisfiable =
    (rules : List Rule) (views : List ConjunctiveQuery) (names : List Name) (query : ConjunctiveQuery) (plan : Plan) → AreRules rules → IsQuery query
    → IsPlanOfRun rules views names query plan → IsSatisfiable rules query

-- The plan of a query's run receives unions for the query.
abbrev pub PlanOfRunReceivesUnions : Type 0
PlanOfRunReceivesUnions =
    (rules : List Rule) (views : List ConjunctiveQuery) (names : List Name) (query : ConjunctiveQuery) (plan : Plan) → AreRules rules → IsQuery query
    → IsPlanOfRun rules views names query plan → ReceivesUnions rules views query (plan_query plan)

-- The plan of a query's run is universal for the query.
abbrev pub PlanOfRunIsUniversal : Type 0
PlanOfRunIsUniversal =
    (rules : List Rule) (views : List ConjunctiveQuery) (names : List Name) (query : ConjunctiveQuery) (plan : Plan) → AreRules rules → IsQuery query
    → IsPlanOfRun rules views names query plan → IsUniversalPlan rules views query (plan_query plan)

-- The plan of a run is over the fragments whose views it is made of.
abbrev pub PlanOfRunIsOver : Type 0
PlanOfRunIsOver =
    (rules : List Rule) (fragments : List FragmentDef) (names : List Name) (query : ConjunctiveQuery) (plan : Plan) → AreFragments fragments
    → IsPlanOfRun rules (views_of fragments) names query plan → IsPlanOver plan fragments

-- The atoms of the plan of a run are distinct.
abbrev pub PlanOfRunHasDistinctAtoms : Type 0
PlanOfRunHasDistinctAtoms =
    (rules : List Rule) (views : List ConjunctiveQuery) (names : List Name) (query : ConjunctiveQuery) (plan : Plan)
    → IsPlanOfRun rules views names query plan → AllPairs ◌≢◌ (plan_query plan).body
