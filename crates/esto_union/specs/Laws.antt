-- Laws of the sets that are listed in a union.
use Rattle.std.specs.Prelude.{◌≡◌, ◌⊎◌, ◌↔◌, Bool, List, [], ◌∷◌, length, Contains}
use Rattle.esto_mapping.specs.declared.catalogue.Catalogue.{Catalogue}
use Rattle.esto_constraint.specs.Constraints.{rules_of}
use Rattle.esto_query.specs.Making.{query_of}
use Rattle.esto_query.specs.declared.query.Query.{Query}
use Rattle.esto_semantics.specs.Containment.{IsSatisfiable}
use Rattle.esto_semantics.specs.Facts.{Database}
use Rattle.esto_semantics.specs.Listed.{candidate, IsListed}
use Rattle.esto_semantics.specs.Queries.{ConjunctiveQuery}
use Rattle.esto_semantics.specs.Rules.{Meets}
use Rattle.esto_term.specs.Sets.{AreInOrder}
use Rattle.esto_semantics.specs.Unions.{IsUnionAnswer, IsUnionFragmentAnswer}
use Rattle.esto_semantics.specs.declared.fact.Value.{Value}
use Rattle.esto_views.specs.Fragments.{views_of, patterns_of}
use Rattle.esto_views.specs.Plans.{plan_query}
use Rattle.esto_views.specs.declared.plan.Plan.{Plan}
use Rattle.esto_union.specs.Unions.{queries_of, AreRewritingOf, IsListedIn, IsPlanOfSatisfiable}

-- The plan, with as long a head, is one of the satisfiable query, and the sets are exactly those of its atoms that are listed in the union.
pub record IsMember (catalogue : Catalogue) (queries : List Query) (query : Query) (plan : Plan) (sets : List (List Bool)) : Type 0 where
  pub same_length : length plan.head ≡ length query.head
  pub plan_of : IsPlanOfSatisfiable catalogue plan query
  pub listed : (set : List Bool) → Contains sets set ↔ IsListedIn catalogue queries plan set

-- The query is not satisfiable, or it has a plan with its sets.
abbrev pub HasSets : Catalogue → List Query → Query → Type 0
HasSets catalogue queries query =
    (¬ (IsSatisfiable (rules_of catalogue.rules) (query_of query)))
    ⊎ ((plan : Plan) × (sets : List (List Bool)) × IsMember catalogue queries query plan sets)

-- Some satisfiable query of the union has a plan of which no set is listed.
abbrev pub OneHasNoSet : Catalogue → List Query → Type 0
OneHasNoSet catalogue queries = (query : Query) × Contains queries query × ((plan : Plan) × IsMember catalogue queries query plan [])

-- Where each query of the union is not satisfiable or has a plan with its sets, the union has no executable rewriting exactly where some satisfiable query has
-- no set.
abbrev pub NoRewritingIsTold : Type 0
NoRewritingIsTold =
    (catalogue : Catalogue) (queries : List Query) → ((query : Query) → Contains queries query → HasSets catalogue queries query)
    → ((others : List ConjunctiveQuery) → ¬ (AreRewritingOf catalogue queries others)) ↔ OneHasNoSet catalogue queries

-- A plan of a satisfiable query of the union, with one of its listed sets, whose candidate is this query over fragments.
abbrev pub IsPickOf : Catalogue → List Query → Query → ConjunctiveQuery → Type 0
IsPickOf catalogue queries query other =
    (plan : Plan) × (sets : List (List Bool)) × (set : List Bool) × IsMember catalogue queries query plan sets × Contains sets set
    × (candidate (plan_query plan) set ≡ other)

-- The queries over fragments are picks: each is one of some query of the union, and each satisfiable query of the union has one among them.
pub record ArePicks (catalogue : Catalogue) (queries : List Query) (others : List ConjunctiveQuery) : Type 0 where
  pub picked : (other : ConjunctiveQuery) → Contains others other → (query : Query) × Contains queries query × IsPickOf catalogue queries query other
  pub each : (query : Query) → Contains queries query → IsSatisfiable (rules_of catalogue.rules) (query_of query)
      → (other : ConjunctiveQuery) × Contains others other × IsPickOf catalogue queries query other

-- Picks are an executable rewriting of the union.
abbrev pub PicksAreRewriting : Type 0
PicksAreRewriting =
    (catalogue : Catalogue) (queries : List Query) (others : List ConjunctiveQuery) → ArePicks catalogue queries others → AreRewritingOf catalogue queries
    others

-- So over each database that meets the rules they have together exactly the union's answers.
abbrev pub PicksAnswerUnion : Type 0
PicksAnswerUnion =
    (catalogue : Catalogue) (queries : List Query) (others : List ConjunctiveQuery) → ArePicks catalogue queries others
    → (database : Database) → Meets (rules_of catalogue.rules) database → (row : List Value)
    → IsUnionFragmentAnswer (views_of catalogue.fragments) others database row ↔ IsUnionAnswer (queries_of queries) database row

-- Two lists of a plan's sets that are listed in the union, in the order of the list, are one.
abbrev pub ListedInUnionIsOne : Type 0
ListedInUnionIsOne =
    (catalogue : Catalogue) (queries : List Query) (plan : Plan) (sets others : List (List Bool)) → AreInOrder sets → AreInOrder others
    → ((set : List Bool) → Contains sets set ↔ IsListedIn catalogue queries plan set)
    → ((set : List Bool) → Contains others set ↔ IsListedIn catalogue queries plan set) → sets ≡ others

-- In a union of one query a plan of it has the query's listed sets.
abbrev pub OneHasItsListedSets : Type 0
OneHasItsListedSets =
    (catalogue : Catalogue) (query : Query) (plan : Plan) (set : List Bool) → length plan.head ≡ length query.head
    → IsPlanOfSatisfiable catalogue plan query
    → IsListedIn catalogue (query ∷ []) plan set
    ↔ IsListed (rules_of catalogue.rules) (views_of catalogue.fragments) (patterns_of catalogue.fragments) (query_of query) (plan_query plan) set
