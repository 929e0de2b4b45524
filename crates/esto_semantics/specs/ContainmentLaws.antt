-- Laws of containment by universal instances.
use Rattle.std.specs.Prelude.{◌↔◌, Bool, List, [], Contains}
use Rattle.esto_term.specs.declared.term.Term.{Term}
use Rattle.esto_semantics.specs.Containment.{IsContained, IsEquivalent, IsSatisfiable}
use Rattle.esto_semantics.specs.Facts.{Database}
use Rattle.esto_semantics.specs.Instances.{MapsTo, IsUniversalFor, IsFinished}
use Rattle.esto_semantics.specs.Listed.{candidate}
use Rattle.esto_semantics.specs.Queries.{ConjunctiveQuery, IsAnswer}
use Rattle.esto_semantics.specs.Rules.{Rule, AreRules}
use Rattle.esto_semantics.specs.Shown.{Shows}
use Rattle.esto_semantics.specs.Sides.{Side, IsAnswerOf}
use Rattle.esto_semantics.specs.Unions.{IsUnionAnswer, OneMapsTo}
use Rattle.esto_semantics.specs.declared.fact.Fact.{Fact}
use Rattle.esto_semantics.specs.declared.fact.Value.{Value}

-- Where an instance is universal for a query under the rules, and meets the rules itself, the query is contained in a union exactly where one of the union's
-- queries maps to the instance, head to head.
abbrev pub UnionsAreDecided : Type 0
UnionsAreDecided =
    (rules : List Rule) (start end : ConjunctiveQuery) (queries : List ConjunctiveQuery)
    → AreRules rules → IsUniversalFor rules start end → IsFinished rules end
    → IsContained rules (IsAnswer start) (IsUnionAnswer queries) ↔ OneMapsTo queries end

-- So it is contained in another query exactly where that maps to the instance.
abbrev pub QueriesAreDecided : Type 0
QueriesAreDecided =
    (rules : List Rule) (start end right : ConjunctiveQuery) → AreRules rules → IsUniversalFor rules start end → IsFinished rules end
    → IsContained rules (IsAnswer start) (IsAnswer right) ↔ MapsTo right end

-- The instance has values for its terms under which its facts show what the query is not contained in.
abbrev pub InstanceShows : Type 0
InstanceShows =
    (rules : List Rule) (start end : ConjunctiveQuery) → AreRules rules → IsUniversalFor rules start end → IsFinished rules end
    → (value : Term → Value) × Shows rules start end value

-- Some facts of an instance that is universal for a query, with its head, contain the query.
abbrev pub PartContains : Type 0
PartContains =
    (rules : List Rule) (start end : ConjunctiveQuery) (set : List Bool) → IsUniversalFor rules start end
    → IsContained rules (IsAnswer start) (IsAnswer (candidate end set))

-- So they are equivalent to it exactly where the query maps, head to head, to a finished instance that is universal for them.
abbrev pub PartIsEquivalent : Type 0
PartIsEquivalent =
    (rules : List Rule) (start end inner : ConjunctiveQuery) (set : List Bool) → AreRules rules → IsUniversalFor rules start end
    → IsUniversalFor rules (candidate end set) inner → IsFinished rules inner
    → IsEquivalent rules (IsAnswer (candidate end set)) (IsAnswer start) ↔ MapsTo start inner

-- Without rules a query is contained in another exactly where the other maps to it, head to head.
abbrev pub ContainedWithoutRules : Type 0
ContainedWithoutRules = (left right : ConjunctiveQuery) → IsContained [] (IsAnswer left) (IsAnswer right) ↔ MapsTo right left

-- Each side is contained in itself.
abbrev pub ContainedIsReflexive : Type 0
ContainedIsReflexive = (rules : List Rule) (side : Side) → IsContained rules (IsAnswerOf side) (IsAnswerOf side)

-- What is contained in a second side is contained in each third that the second is contained in.
abbrev pub ContainedIsTransitive : Type 0
ContainedIsTransitive =
    (rules : List Rule) (left middle right : Side)
    → IsContained rules (IsAnswerOf left) (IsAnswerOf middle) → IsContained rules (IsAnswerOf middle) (IsAnswerOf right)
    → IsContained rules (IsAnswerOf left) (IsAnswerOf right)

-- Over a database that has each fact of another a side has each answer that it has over the other.
abbrev pub AnswersGrow : Type 0
AnswersGrow =
    (side : Side) (database larger : Database) → ((fact : Fact Value) → Contains database fact → Contains larger fact)
    → (row : List Value) → IsAnswerOf side database row → IsAnswerOf side larger row

-- A query with a universal instance that meets the rules itself is satisfiable.
abbrev pub InstanceSatisfies : Type 0
InstanceSatisfies =
    (rules : List Rule) (start end : ConjunctiveQuery) → AreRules rules → IsUniversalFor rules start end → IsFinished rules end
    → IsSatisfiable rules start
