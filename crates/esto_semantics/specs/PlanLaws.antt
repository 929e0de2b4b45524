-- Laws of universal plans, of their candidates, and of the queries over fragments that map to them.
use Rattle.std.specs.Prelude.{◌↔◌, ℕ, ◌≤◌, Bool, List}
use Rattle.esto_semantics.specs.Access.{Patterns, IsExecutableQuery}
use Rattle.esto_semantics.specs.Containment.{IsContained, IsEquivalent, IsSatisfiable}
use Rattle.esto_semantics.specs.Instances.{MapsTo, IsUniversalFor, IsFinished}
use Rattle.esto_semantics.specs.Listed.{chosen, candidate, HasCandidate, IsSafe, IsRewriting, IsExecutableRewriting, IsWeight}
use Rattle.esto_semantics.specs.Maps.{AreFlat}
use Rattle.esto_semantics.specs.PlanOf.{IsPlanOf}
use Rattle.esto_semantics.specs.Plans.{IsUniversalPlan}
use Rattle.esto_semantics.specs.Queries.{ConjunctiveQuery, IsQuery, IsAnswer}
use Rattle.esto_semantics.specs.Rewritings.{IsPlanFor, MapsOnto, MapsOntoExecutable}
use Rattle.esto_semantics.specs.Rules.{Rule, AreRules}
use Rattle.esto_semantics.specs.Views.{IsFragmentAnswer}

-- The rows of all views over a finished universal instance, with its head, are a universal plan for the query, under whatever names for the terms.
abbrev pub RowsAreUniversal : Type 0
RowsAreUniversal =
    (rules : List Rule) (views : List ConjunctiveQuery) (query end plan : ConjunctiveQuery)
    → AreRules rules → IsUniversalFor rules query end → IsFinished rules end → IsPlanOf views end plan → IsUniversalPlan rules views query plan

-- A query over fragments that maps to another, head to head, contains the other.
abbrev pub MappedIsContained : Type 0
MappedIsContained =
    (rules : List Rule) (views : List ConjunctiveQuery) (other query : ConjunctiveQuery)
    → MapsTo other query → IsContained rules (IsFragmentAnswer views query) (IsFragmentAnswer views other)

-- Each safe candidate of a universal plan contains the query.
abbrev pub CandidateContains : Type 0
CandidateContains =
    (rules : List Rule) (views : List ConjunctiveQuery) (query plan : ConjunctiveQuery) (set : List Bool)
    → IsPlanFor query plan → IsUniversalPlan rules views query plan → HasCandidate plan set → IsSafe plan set
    → IsContained rules (IsAnswer query) (IsFragmentAnswer views (candidate plan set))

-- So it is equivalent to the query exactly where it is contained in the query.
abbrev pub ContainedCandidateIsEquivalent : Type 0
ContainedCandidateIsEquivalent =
    (rules : List Rule) (views : List ConjunctiveQuery) (query plan : ConjunctiveQuery) (set : List Bool)
    → IsPlanFor query plan → IsUniversalPlan rules views query plan → HasCandidate plan set → IsSafe plan set
    → IsEquivalent rules (IsFragmentAnswer views (candidate plan set)) (IsAnswer query)
    ↔ IsContained rules (IsFragmentAnswer views (candidate plan set)) (IsAnswer query)

-- An executable query over fragments that maps to a plan, head to head, maps onto a set of the plan's atoms that is safe and executable.
abbrev pub QueriesMapOntoExecutableSets : Type 0
QueriesMapOntoExecutableSets =
    (rules : List Rule) (views : List ConjunctiveQuery) (patterns : Patterns) (plan other : ConjunctiveQuery)
    → IsQuery other → IsExecutableQuery patterns other → MapsTo other plan
    → (set : List Bool) × MapsOntoExecutable rules views patterns other plan set

-- Each query over fragments that is an executable rewriting of a satisfiable query maps onto a set of a universal plan's atoms that is a rewriting.
abbrev pub RewritingsMapOntoSets : Type 0
RewritingsMapOntoSets =
    (rules : List Rule) (views : List ConjunctiveQuery) (patterns : Patterns) (query plan other : ConjunctiveQuery)
    → AreFlat plan.body → IsUniversalPlan rules views query plan → IsSatisfiable rules query
    → IsExecutableRewriting rules views patterns query other
    → (set : List Bool) × IsRewriting rules views patterns query plan set × MapsOnto other plan set

-- The candidate of a set of a plan's atoms that is a rewriting is an executable rewriting.
abbrev pub CandidateIsExecutableRewriting : Type 0
CandidateIsExecutableRewriting =
    (rules : List Rule) (views : List ConjunctiveQuery) (patterns : Patterns) (query plan : ConjunctiveQuery) (set : List Bool)
    → IsPlanFor query plan → IsRewriting rules views patterns query plan set
    → IsExecutableRewriting rules views patterns query (candidate plan set)

-- A set of a plan's atoms weighs no more than a query over fragments that maps onto it.
abbrev pub OntoWeighsNoMore : Type 0
OntoWeighsNoMore =
    (weights : List ℕ) (plan other : ConjunctiveQuery) (set : List Bool) (weight other_weight : ℕ) → MapsOnto other plan set
    → IsWeight weights (chosen set plan.body) weight → IsWeight weights other.body other_weight → weight ≤ other_weight
