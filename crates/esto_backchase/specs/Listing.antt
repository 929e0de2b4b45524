-- What the listed sets of a plan cover, and how they are read from entries.
use Rattle.std.specs.Prelude.{Bool, List}
use Rattle.esto_mapping.specs.declared.catalogue.Catalogue.{Catalogue}
use Rattle.esto_semantics.specs.Access.{Patterns, HoldsOfPart}
use Rattle.esto_semantics.specs.Containment.{IsSatisfiable}
use Rattle.esto_semantics.specs.Listed.{AreListed, IsExecutableRewriting}
use Rattle.esto_semantics.specs.Maps.{AreFlat}
use Rattle.esto_semantics.specs.Plans.{IsUniversalPlan}
use Rattle.esto_semantics.specs.Queries.{ConjunctiveQuery}
use Rattle.esto_semantics.specs.Rules.{Rule}
use Rattle.esto_term.specs.Sets.{IsMinimal}
use Rattle.esto_query.specs.declared.query.Query.{Query}
use Rattle.esto_views.specs.Contained.{MapsOntoOne}
use Rattle.esto_views.specs.Fragments.{patterns_of}
use Rattle.esto_views.specs.Plans.{plan_query}
use Rattle.esto_views.specs.declared.plan.Plan.{Plan}
use Rattle.esto_chase_laws.specs.declared.entry.Entry.{Entry}
use Rattle.esto_condchase.specs.Evidence.{MatchesIn}

-- Each executable rewriting of a satisfiable query, with any variables and of any size, maps onto a set of a universal plan's atoms that has a listed set
-- within it.
abbrev pub ListedCoverRewritings : Type 0
ListedCoverRewritings =
    (rules : List Rule) (views : List ConjunctiveQuery) (patterns : Patterns) (query plan other : ConjunctiveQuery) (sets : List (List Bool))
    → AreFlat plan.body → IsUniversalPlan rules views query plan → IsSatisfiable rules query → AreListed rules views patterns query plan sets
    → IsExecutableRewriting rules views patterns query other → MapsOntoOne other plan sets

-- The set is minimal among those of the plan's atoms whose accessible part has a world with a match of the query, head to head with the plan.
abbrev pub IsLeastOfParts : Catalogue → Query → Plan → List Entry → List Bool → Type 0
IsLeastOfParts catalogue query plan entries set =
    IsMinimal (HoldsOfPart (patterns_of catalogue.fragments) (plan_query plan).body (MatchesIn query plan entries)) set
