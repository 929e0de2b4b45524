-- Laws of cores of plans.
use Rattle.std.specs.Prelude.{◌≡◌, ◌≢◌, ◌↔◌, Bool, List, [], length, Contains, AllPairs}
use Rattle.esto_term.specs.declared.term.Term.{Term}
use Rattle.esto_semantics.specs.Instances.{MapsTo}
use Rattle.esto_semantics.specs.Listed.{chosen}
use Rattle.esto_semantics.specs.Maps.{AreFlat, IsFixedBy}
use Rattle.esto_semantics.specs.Plans.{IsUniversalPlan}
use Rattle.esto_semantics.specs.Queries.{ConjunctiveQuery}
use Rattle.esto_semantics.specs.Rewritings.{IsPlanFor}
use Rattle.esto_semantics.specs.Rules.{Rule}
use Rattle.esto_semantics.specs.declared.fact.Fact.{Fact}
use Rattle.esto_semantics.specs.Cores.{with_head, IsCore, HasNoRetract, AreLeft, IsRenamedTo}

-- Maps between plans, head to head, follow each other.
abbrev pub MapsCompose : Type 0
MapsCompose = (first second third : ConjunctiveQuery) → MapsTo first second → MapsTo second third → MapsTo first third

-- Two plans that map to each other, head to head, are universal for the same queries.
abbrev pub UniversalAlike : Type 0
UniversalAlike =
    (rules : List Rule) (views : List ConjunctiveQuery) (query plan other : ConjunctiveQuery) → MapsTo plan other → MapsTo other plan
    → IsUniversalPlan rules views query plan → IsUniversalPlan rules views query other

-- What is left of a plan are some of its atoms, in order.
abbrev pub LeftIsChosen : Type 0
LeftIsChosen =
    (plan : ConjunctiveQuery) (left : List (Fact Term)) → AreLeft plan.head [] plan.body left
    → (set : List Bool) × (length set ≡ length plan.body) × (left ≡ chosen set plan.body)

-- The plan maps, head to head, to what is left of it.
abbrev pub MapsToLeft : Type 0
MapsToLeft = (plan : ConjunctiveQuery) (left : List (Fact Term)) → AreLeft plan.head [] plan.body left → MapsTo plan (with_head plan.head left)

-- What is left of a plan maps, head to head, to the plan.
abbrev pub LeftMapsBack : Type 0
LeftMapsBack = (plan : ConjunctiveQuery) (left : List (Fact Term)) → AreLeft plan.head [] plan.body left → MapsTo (with_head plan.head left) plan

-- What is left of a universal plan of a query is one.
abbrev pub LeftIsUniversal : Type 0
LeftIsUniversal =
    (rules : List Rule) (views : List ConjunctiveQuery) (query plan : ConjunctiveQuery) (left : List (Fact Term))
    → AreLeft plan.head [] plan.body left → IsUniversalPlan rules views query plan → IsUniversalPlan rules views query (with_head plan.head left)

-- What is left of a plan is a core.
abbrev pub LeftIsCore : Type 0
LeftIsCore = (plan : ConjunctiveQuery) (left : List (Fact Term)) → AreLeft plan.head [] plan.body left → IsCore (with_head plan.head left)

-- One list is left of a plan.
abbrev pub LeftIsOne : Type 0
LeftIsOne =
    (plan : ConjunctiveQuery) (left other : List (Fact Term)) → AreLeft plan.head [] plan.body left → AreLeft plan.head [] plan.body other
    → left ≡ other

-- A plan is a core exactly where it retracts into no proper sublist of itself.
abbrev pub CoreHasNoRetract : Type 0
CoreHasNoRetract = (plan : ConjunctiveQuery) → IsCore plan ↔ HasNoRetract plan

-- The atoms of a core are distinct.
abbrev pub CoreIsDistinct : Type 0
CoreIsDistinct = (plan : ConjunctiveQuery) → IsCore plan → AllPairs ◌≢◌ plan.body

-- A plan maps, head to head, to what it is renamed to.
abbrev pub RenamedIsReached : Type 0
RenamedIsReached = (plan other : ConjunctiveQuery) → IsRenamedTo plan other → MapsTo plan other

-- What a plan is renamed to maps, head to head, to the plan.
abbrev pub RenamedMapsBack : Type 0
RenamedMapsBack = (plan other : ConjunctiveQuery) → IsRenamedTo plan other → MapsTo other plan

-- What a core is renamed to is a core.
abbrev pub RenamedIsCore : Type 0
RenamedIsCore = (plan other : ConjunctiveQuery) → IsRenamedTo plan other → IsCore plan → IsCore other

-- Where a universal plan of a query is a core, is safe and has an atom, each universal plan of the query that is a core is the plan under a renaming, but for
-- the order of its atoms.
abbrev pub CoreIsOne : Type 0
CoreIsOne =
    (rules : List Rule) (views : List ConjunctiveQuery) (query plan other : ConjunctiveQuery)
    → IsPlanFor query plan → ((term : Term) → Contains plan.head term → IsFixedBy plan.body term) → plan.body ≢ [] → AreFlat other.body
    → IsUniversalPlan rules views query plan → IsUniversalPlan rules views query other → IsCore plan → IsCore other → IsRenamedTo plan other
