-- Laws of printed plans.
use Rattle.std.specs.Prelude.{◌≡◌, ◌≢◌, Bool, IsTrue, List, AllPairs}
use Rattle.esto_semantics.specs.Containment.{IsSatisfiable}
use Rattle.esto_semantics.specs.Plans.{IsUniversalPlan}
use Rattle.esto_semantics.specs.Queries.{ConjunctiveQuery, IsQuery}
use Rattle.esto_semantics.specs.Rules.{Rule, AreRules}
use Rattle.esto_semantics.specs.Unions.{ReceivesUnions}
use Rattle.esto_semantics.specs.Cores.{HasNoRetract}
use Rattle.esto_query.specs.declared.query.Name.{Name}
use Rattle.esto_views.specs.Fragments.{views_of, AreFragments}
use Rattle.esto_views.specs.Plans.{plan_query, IsPlanOver}
use Rattle.esto_views.specs.declared.fragments.FragmentDef.{FragmentDef}
use Rattle.esto_views.specs.declared.plan.Plan.{Plan}
use Rattle.esto_chase_laws.specs.Runs.{start_of}
use Rattle.esto_chase_laws.specs.declared.clash.Clash.{Clash}
use Rattle.esto_chase.specs.Chased.{RunClashes}
use Rattle.esto_core.specs.Cored.{IsOnlyCore}
use Rattle.esto_rewriting.specs.Printed.{IsPrintedPlan}

-- A query has one printed plan.
abbrev pub PrintedPlanIsOne : Type 0
PrintedPlanIsOne =
    (core : Bool) (rules : List Rule) (views : List ConjunctiveQuery) (names : List Name) (query : ConjunctiveQuery) (plan other : Plan) → AreRules rules
    → IsPrintedPlan core rules views names query plan → IsPrintedPlan core rules views names query other
    → (plan_query plan ≡ plan_query other) × (plan.names ≡ other.names)

-- A query has no printed plan where its run clashes, nor does its run clash where it has one.
abbrev pub PrintedPlanExcludesClash : Type 0
PrintedPlanExcludesClash =
    (core : Bool) (rules : List Rule) (views : List ConjunctiveQuery) (names : List Name) (query : ConjunctiveQuery) (plan : Plan) (clash : Clash)
    → AreRules rules → IsPrintedPlan core rules views names query plan → ¬ (RunClashes rules (start_of query) clash)

-- A query that has a printed plan is satisfiable.
abbrev pub PrintedIsSatisfiable : Type 0
PrintedIsSatisfiable =
    (core : Bool) (rules : List Rule) (views : List ConjunctiveQuery) (names : List Name) (query : ConjunctiveQuery) (plan : Plan)
    → AreRules rules → IsQuery query → IsPrintedPlan core rules views names query plan → IsSatisfiable rules query

-- The printed plan receives unions for the query.
abbrev pub PrintedPlanReceivesUnions : Type 0
PrintedPlanReceivesUnions =
    (core : Bool) (rules : List Rule) (views : List ConjunctiveQuery) (names : List Name) (query : ConjunctiveQuery) (plan : Plan)
    → AreRules rules → IsQuery query → IsPrintedPlan core rules views names query plan → ReceivesUnions rules views query (plan_query plan)

-- The printed plan is universal for the query.
abbrev pub PrintedPlanIsUniversal : Type 0
PrintedPlanIsUniversal =
    (core : Bool) (rules : List Rule) (views : List ConjunctiveQuery) (names : List Name) (query : ConjunctiveQuery) (plan : Plan)
    → AreRules rules → IsQuery query → IsPrintedPlan core rules views names query plan → IsUniversalPlan rules views query (plan_query plan)

-- Where the core is asked for, the printed plan retracts into no proper sublist of itself.
abbrev pub PrintedCoreHasNoRetract : Type 0
PrintedCoreHasNoRetract =
    (core : Bool) (rules : List Rule) (views : List ConjunctiveQuery) (names : List Name) (query : ConjunctiveQuery) (plan : Plan)
    → IsTrue core → IsPrintedPlan core rules views names query plan → HasNoRetract (plan_query plan)

-- Where the core is asked for, the printed plan is the only core for the query.
abbrev pub PrintedCoreIsOneForAQuery : Type 0
PrintedCoreIsOneForAQuery =
    (core : Bool) (rules : List Rule) (views : List ConjunctiveQuery) (names : List Name) (query : ConjunctiveQuery) (plan : Plan)
    → AreRules rules → IsQuery query → IsTrue core → IsPrintedPlan core rules views names query plan → IsOnlyCore rules views query (plan_query plan)

-- The printed plan is over the fragments whose views it is made of.
abbrev pub PrintedPlanIsOver : Type 0
PrintedPlanIsOver =
    (core : Bool) (rules : List Rule) (fragments : List FragmentDef) (names : List Name) (query : ConjunctiveQuery) (plan : Plan)
    → AreFragments fragments → IsPrintedPlan core rules (views_of fragments) names query plan → IsPlanOver plan fragments

-- The atoms of the printed plan are distinct.
abbrev pub PrintedPlanHasDistinctAtoms : Type 0
PrintedPlanHasDistinctAtoms =
    (core : Bool) (rules : List Rule) (views : List ConjunctiveQuery) (names : List Name) (query : ConjunctiveQuery) (plan : Plan)
    → IsPrintedPlan core rules views names query plan → AllPairs ◌≢◌ (plan_query plan).body
