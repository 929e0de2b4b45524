-- Laws of plans that receive unions, and of the rewritings of unions.
use Rattle.std.specs.Prelude.{◌≡◌, ◌⊎◌, ◌↔◌, Bool, List, [], ◌∷◌, length, Contains}
use Rattle.esto_semantics.specs.Access.{Patterns, IsExecutable, HoldsExecutably, HoldsOfPart}
use Rattle.esto_semantics.specs.Instances.{MapsTo, IsUniversalFor, IsFinished}
use Rattle.esto_semantics.specs.Listed.{IsRewriting, IsListed}
use Rattle.esto_semantics.specs.PlanOf.{IsPlanOf}
use Rattle.esto_semantics.specs.Plans.{IsUniversalPlan}
use Rattle.esto_semantics.specs.Queries.{ConjunctiveQuery}
use Rattle.esto_semantics.specs.Rewritings.{IsPlanFor, MapsOnto}
use Rattle.esto_semantics.specs.Rules.{Rule, AreRules}
use Rattle.esto_term.specs.Sets.{Within, Covers, IsMinimal, Rises, TellHolds}
use Rattle.esto_semantics.specs.Unions.{ReceivesUnions}
use Rattle.esto_semantics.specs.UnionSets.{AnswersUnion, IsUnionRewriting, IsUnionListed, AreUnionListed, IsExecutableUnion, IsChoice, IsAnswered, HasEmptyList}
use Rattle.esto_semantics.specs.UnionSets.{HasList}

-- The plan of a finished universal instance, the rows of all views over it under whatever names for the terms, receives unions.
abbrev pub RowsReceiveUnions : Type 0
RowsReceiveUnions =
    (rules : List Rule) (views : List ConjunctiveQuery) (query end plan : ConjunctiveQuery)
    → AreRules rules → IsUniversalFor rules query end → IsFinished rules end → IsPlanOf views end plan → ReceivesUnions rules views query plan

-- Two plans that map to each other, head to head, receive unions for the same queries.
abbrev pub ReceiveUnionsAlike : Type 0
ReceiveUnionsAlike =
    (rules : List Rule) (views : List ConjunctiveQuery) (query plan other : ConjunctiveQuery) → MapsTo plan other → MapsTo other plan
    → ReceivesUnions rules views query plan → ReceivesUnions rules views query other

-- A plan that receives unions for a query is a universal plan of it.
abbrev pub ReceivingIsUniversal : Type 0
ReceivingIsUniversal =
    (rules : List Rule) (views : List ConjunctiveQuery) (query plan : ConjunctiveQuery)
    → ReceivesUnions rules views query plan → IsUniversalPlan rules views query plan

-- An executable rewriting of a union has, for each query of the union whose plan receives unions, a member that maps onto a set of that plan's atoms that is
-- a rewriting in the union.
abbrev pub UnionsMapOntoSets : Type 0
UnionsMapOntoSets =
    (rules : List Rule) (views : List ConjunctiveQuery) (patterns : Patterns) (queries others : List ConjunctiveQuery) (query plan : ConjunctiveQuery)
    → Contains queries query → ReceivesUnions rules views query plan → IsExecutableUnion rules views patterns queries others
    → (other : ConjunctiveQuery) × Contains others other
    × ((set : List Bool) × MapsOnto other plan set × IsUnionRewriting rules views patterns queries plan set)

-- That set has one of the sets that are listed in the union within it.
abbrev pub ListedCoverUnions : Type 0
ListedCoverUnions =
    (rules : List Rule) (views : List ConjunctiveQuery) (patterns : Patterns) (queries others : List ConjunctiveQuery) (query plan : ConjunctiveQuery)
    (sets : List (List Bool)) → Contains queries query → ReceivesUnions rules views query plan → AreUnionListed rules views patterns queries plan sets
    → IsExecutableUnion rules views patterns queries others
    → (other : ConjunctiveQuery) × Contains others other × ((set : List Bool) × MapsOnto other plan set × Covers sets set)

-- There is one list of the sets that are listed in a union.
abbrev pub UnionListIsOne : Type 0
UnionListIsOne =
    (rules : List Rule) (views : List ConjunctiveQuery) (patterns : Patterns) (queries : List ConjunctiveQuery) (plan : ConjunctiveQuery)
    (sets others : List (List Bool)) → AreUnionListed rules views patterns queries plan sets → AreUnionListed rules views patterns queries plan others
    → sets ≡ others

-- An executable set that has a rewriting in the union within it is one.
abbrev pub UnionRewritingsRise : Type 0
UnionRewritingsRise =
    (rules : List Rule) (views : List ConjunctiveQuery) (patterns : Patterns) (queries : List ConjunctiveQuery) (plan : ConjunctiveQuery)
    (set other : List Bool) → IsUnionRewriting rules views patterns queries plan set → Within set other → length other ≡ length plan.body
    → IsExecutable patterns plan.body other → IsUnionRewriting rules views patterns queries plan other

-- What answers a part of the union does so with more atoms of the plan.
abbrev pub UnionAnsweringRises : Type 0
UnionAnsweringRises =
    (rules : List Rule) (views : List ConjunctiveQuery) (queries : List ConjunctiveQuery) (plan : ConjunctiveQuery)
    → Rises (length plan.body) (AnswersUnion rules views queries plan)

-- So the minimal sets that answer a part of the union tell which sets do.
abbrev pub UnionAnsweringIsTold : Type 0
UnionAnsweringIsTold =
    (rules : List Rule) (views : List ConjunctiveQuery) (queries : List ConjunctiveQuery) (plan : ConjunctiveQuery) (sets : List (List Bool))
    → ((set : List Bool) → Contains sets set ↔ IsMinimal (AnswersUnion rules views queries plan) set)
    → TellHolds (length plan.body) (AnswersUnion rules views queries plan) sets

-- Where sets tell which sets answer a part of the union, the sets that are listed in it are the minimal executable sets that have one of them as a subset.
abbrev pub UnionListedAreExecutable : Type 0
UnionListedAreExecutable =
    (rules : List Rule) (views : List ConjunctiveQuery) (patterns : Patterns) (queries : List ConjunctiveQuery) (plan : ConjunctiveQuery)
    (sets : List (List Bool)) → TellHolds (length plan.body) (AnswersUnion rules views queries plan) sets
    → (set : List Bool)
    → IsUnionListed rules views patterns queries plan set ↔ IsMinimal (HoldsExecutably patterns plan.body (Covers sets)) set

-- The sets that are listed in the union are the minimal sets whose accessible part answers a part of it.
abbrev pub UnionListedAreOfParts : Type 0
UnionListedAreOfParts =
    (rules : List Rule) (views : List ConjunctiveQuery) (patterns : Patterns) (queries : List ConjunctiveQuery) (plan : ConjunctiveQuery) (set : List Bool)
    → IsUnionListed rules views patterns queries plan set ↔ IsMinimal (HoldsOfPart patterns plan.body (AnswersUnion rules views queries plan)) set

-- A choice is an executable rewriting of the union.
abbrev pub ChoiceIsExecutable : Type 0
ChoiceIsExecutable =
    (rules : List Rule) (views : List ConjunctiveQuery) (patterns : Patterns) (queries others : List ConjunctiveQuery)
    → IsChoice rules views patterns queries others → IsExecutableUnion rules views patterns queries others

-- Where each query of the union is not satisfiable or has a rewriting in it, there is a choice.
abbrev pub ChoiceExists : Type 0
ChoiceExists =
    (rules : List Rule) (views : List ConjunctiveQuery) (patterns : Patterns) (queries : List ConjunctiveQuery)
    → ((query : ConjunctiveQuery) → Contains queries query → IsAnswered rules views patterns queries query)
    → (others : List ConjunctiveQuery) × IsChoice rules views patterns queries others

-- Where some query of the union has an empty list, no union of queries over fragments is an executable rewriting of it.
abbrev pub EmptyListExcludes : Type 0
EmptyListExcludes =
    (rules : List Rule) (views : List ConjunctiveQuery) (patterns : Patterns) (queries : List ConjunctiveQuery)
    → HasEmptyList rules views patterns queries → (others : List ConjunctiveQuery) → ¬ (IsExecutableUnion rules views patterns queries others)

-- Where each query of the union is not satisfiable or has its list, some query has an empty list, or there is a choice.
abbrev pub EmptyListOrChoice : Type 0
EmptyListOrChoice =
    (rules : List Rule) (views : List ConjunctiveQuery) (patterns : Patterns) (queries : List ConjunctiveQuery)
    → ((query : ConjunctiveQuery) → Contains queries query → HasList rules views patterns queries query)
    → HasEmptyList rules views patterns queries ⊎ ((others : List ConjunctiveQuery) × IsChoice rules views patterns queries others)

-- A union of one query has the rewritings of the query.
abbrev pub OneHasRewritings : Type 0
OneHasRewritings =
    (rules : List Rule) (views : List ConjunctiveQuery) (patterns : Patterns) (query plan : ConjunctiveQuery) (set : List Bool)
    → IsPlanFor query plan → IsUniversalPlan rules views query plan
    → IsUnionRewriting rules views patterns (query ∷ []) plan set ↔ IsRewriting rules views patterns query plan set

-- A union of one query has the listed sets of the query.
abbrev pub OneHasListed : Type 0
OneHasListed =
    (rules : List Rule) (views : List ConjunctiveQuery) (patterns : Patterns) (query plan : ConjunctiveQuery) (set : List Bool)
    → IsPlanFor query plan → IsUniversalPlan rules views query plan
    → IsUnionListed rules views patterns (query ∷ []) plan set ↔ IsListed rules views patterns query plan set
