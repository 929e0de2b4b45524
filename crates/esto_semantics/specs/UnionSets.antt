-- The listed sets of a plan in a union, and the executable rewritings of a union. Source: minimal reformulations of chase and backchase, of unions.
use Rattle.std.specs.Prelude.{◌≡◌, ◌⊎◌, Bool, List, Contains}
use Rattle.esto_semantics.specs.Access.{Patterns, IsExecutable, IsExecutableQuery}
use Rattle.esto_semantics.specs.Containment.{IsContained, IsEquivalent, IsSatisfiable}
use Rattle.esto_semantics.specs.Listed.{candidate, HasCandidate, IsSafe}
use Rattle.esto_semantics.specs.Plans.{IsUniversalPlan}
use Rattle.esto_semantics.specs.Queries.{ConjunctiveQuery, IsQuery}
use Rattle.esto_semantics.specs.Rewritings.{IsPlanFor}
use Rattle.esto_semantics.specs.Rules.{Rule}
use Rattle.esto_term.specs.Sets.{IsMinimal, AreListedBy}
use Rattle.esto_semantics.specs.Unions.{IsUnionAnswer, IsUnionFragmentAnswer, ReceivesUnions}
use Rattle.esto_semantics.specs.Views.{IsFragmentAnswer}

-- The set of the plan's atoms answers a part of the union: it has a candidate, which is contained in the union, and it is safe.
pub record AnswersUnion (rules : List Rule) (views : List ConjunctiveQuery) (queries : List ConjunctiveQuery) (plan : ConjunctiveQuery)
    (set : List Bool) : Type 0 where
  pub has_candidate : HasCandidate plan set
  pub safe : IsSafe plan set
  pub contained : IsContained rules (IsFragmentAnswer views (candidate plan set)) (IsUnionAnswer queries)

-- The set of the plan's atoms is a rewriting in the union: it has a candidate, which is contained in the union, and it is safe and executable.
pub record IsUnionRewriting (rules : List Rule) (views : List ConjunctiveQuery) (patterns : Patterns) (queries : List ConjunctiveQuery)
    (plan : ConjunctiveQuery) (set : List Bool) : Type 0 where
  pub has_candidate : HasCandidate plan set
  pub safe : IsSafe plan set
  pub executable : IsExecutable patterns plan.body set
  pub contained : IsContained rules (IsFragmentAnswer views (candidate plan set)) (IsUnionAnswer queries)

-- The set is listed in the union: it is minimal among the rewritings in it.
abbrev pub IsUnionListed : List Rule → List ConjunctiveQuery → Patterns → List ConjunctiveQuery → ConjunctiveQuery → List Bool → Type 0
IsUnionListed rules views patterns queries plan set = IsMinimal (IsUnionRewriting rules views patterns queries plan) set

-- These are exactly the sets that are listed in the union, each once, by size and then by their rising lists of numbers.
abbrev pub AreUnionListed : List Rule → List ConjunctiveQuery → Patterns → List ConjunctiveQuery → ConjunctiveQuery → List (List Bool) → Type 0
AreUnionListed rules views patterns queries plan sets = AreListedBy (IsUnionRewriting rules views patterns queries plan) sets

-- A union of queries over fragments is an executable rewriting of the union: each of them is executable, and together they are equivalent to it.
pub record IsExecutableUnion (rules : List Rule) (views : List ConjunctiveQuery) (patterns : Patterns) (queries others : List ConjunctiveQuery) : Type 0 where
  pub are_queries : (other : ConjunctiveQuery) → Contains others other → IsQuery other
  pub executable : (other : ConjunctiveQuery) → Contains others other → IsExecutableQuery patterns other
  pub equivalent : IsEquivalent rules (IsUnionFragmentAnswer views others) (IsUnionAnswer queries)

-- A query with a universal plan of it, and a set of the plan's atoms that is a rewriting in the union.
pub record IsOption (rules : List Rule) (views : List ConjunctiveQuery) (patterns : Patterns) (queries : List ConjunctiveQuery)
    (query plan : ConjunctiveQuery) (set : List Bool) : Type 0 where
  pub form : IsPlanFor query plan
  pub universal : IsUniversalPlan rules views query plan
  pub rewriting : IsUnionRewriting rules views patterns queries plan set

-- The query has such a set, whose candidate is one of the others.
abbrev pub HasOption : List Rule → List ConjunctiveQuery → Patterns → List ConjunctiveQuery → List ConjunctiveQuery → ConjunctiveQuery → Type 0
HasOption rules views patterns queries others query =
    (plan : ConjunctiveQuery) × (set : List Bool) × IsOption rules views patterns queries query plan set × Contains others (candidate plan set)

-- The query over fragments is the candidate of such a set of some query.
abbrev pub IsOfOption : List Rule → List ConjunctiveQuery → Patterns → List ConjunctiveQuery → ConjunctiveQuery → Type 0
IsOfOption rules views patterns queries other =
    (query : ConjunctiveQuery) × (plan : ConjunctiveQuery) × (set : List Bool)
    × IsOption rules views patterns queries query plan set × (candidate plan set ≡ other)

-- The others are a choice: each is the candidate of such a set, and each satisfiable query of the union has one among them.
pub record IsChoice (rules : List Rule) (views : List ConjunctiveQuery) (patterns : Patterns) (queries others : List ConjunctiveQuery) : Type 0 where
  pub candidates : (other : ConjunctiveQuery) → Contains others other → IsOfOption rules views patterns queries other
  pub each : (query : ConjunctiveQuery) → Contains queries query → IsSatisfiable rules query → HasOption rules views patterns queries others query

-- The query is not satisfiable, or it has such a set.
abbrev pub IsAnswered : List Rule → List ConjunctiveQuery → Patterns → List ConjunctiveQuery → ConjunctiveQuery → Type 0
IsAnswered rules views patterns queries query =
    (¬ (IsSatisfiable rules query)) ⊎ ((plan : ConjunctiveQuery) × (set : List Bool) × IsOption rules views patterns queries query plan set)

-- Some query of the union has a plan that receives unions, of which no set is listed in the union.
abbrev pub HasEmptyList : List Rule → List ConjunctiveQuery → Patterns → List ConjunctiveQuery → Type 0
HasEmptyList rules views patterns queries =
    (query : ConjunctiveQuery) × Contains queries query
    × ((plan : ConjunctiveQuery) × ReceivesUnions rules views query plan × ((set : List Bool) → ¬ (IsUnionListed rules views patterns queries plan set)))

-- The query is not satisfiable, or it has a plan that receives unions, with the list of the sets of its atoms that are listed in the union.
abbrev pub HasList : List Rule → List ConjunctiveQuery → Patterns → List ConjunctiveQuery → ConjunctiveQuery → Type 0
HasList rules views patterns queries query =
    (¬ (IsSatisfiable rules query))
    ⊎ ((plan : ConjunctiveQuery) × (sets : List (List Bool)) × IsPlanFor query plan × ReceivesUnions rules views query plan
    × AreUnionListed rules views patterns queries plan sets)
