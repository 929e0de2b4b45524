-- The sets of a plan's atoms that are listed in a union of queries over a catalogue, and the rewritings of the union.
use Rattle.std.specs.Prelude.{Bool, List, map, Contains}
use Rattle.esto_mapping.specs.declared.catalogue.Catalogue.{Catalogue}
use Rattle.esto_constraint.specs.Constraints.{rules_of}
use Rattle.esto_semantics.specs.UnionSets.{AnswersUnion, IsUnionListed, IsUnionRewriting, IsExecutableUnion}
use Rattle.esto_query.specs.Making.{query_of}
use Rattle.esto_query.specs.declared.query.Query.{Query}
use Rattle.esto_semantics.specs.Containment.{IsSatisfiable}
use Rattle.esto_semantics.specs.Queries.{ConjunctiveQuery}
use Rattle.esto_semantics.specs.Unions.{ReceivesUnions}
use Rattle.esto_views.specs.Contained.{MapsOntoOne}
use Rattle.esto_views.specs.Fragments.{views_of, patterns_of}
use Rattle.esto_views.specs.Plans.{plan_query}
use Rattle.esto_views.specs.declared.plan.Plan.{Plan}

-- The queries of the union, without their names.
abbrev pub queries_of : List Query → List ConjunctiveQuery
queries_of queries = map query_of queries

-- The plan receives unions for the query, which is satisfiable.
pub record IsPlanOfSatisfiable (catalogue : Catalogue) (plan : Plan) (query : Query) : Type 0 where
  pub satisfiable : IsSatisfiable (rules_of catalogue.rules) (query_of query)
  pub receives : ReceivesUnions (rules_of catalogue.rules) (views_of catalogue.fragments) (query_of query) (plan_query plan)

-- It does so for one of the queries.
abbrev pub IsPlanOfOne : Catalogue → List Query → Plan → Type 0
IsPlanOfOne catalogue queries plan = (query : Query) × Contains queries query × IsPlanOfSatisfiable catalogue plan query

-- The set of the plan's atoms answers a part of the union.
abbrev pub AnswersPart : Catalogue → List Query → Plan → List Bool → Type 0
AnswersPart catalogue queries plan set =
    AnswersUnion (rules_of catalogue.rules) (views_of catalogue.fragments) (queries_of queries) (plan_query plan) set

-- The set of the plan's atoms is a rewriting in the union.
abbrev pub IsRewritingIn : Catalogue → List Query → Plan → List Bool → Type 0
IsRewritingIn catalogue queries plan set =
    IsUnionRewriting (rules_of catalogue.rules) (views_of catalogue.fragments) (patterns_of catalogue.fragments) (queries_of queries) (plan_query plan) set

-- The set of the plan's atoms is listed in the union.
abbrev pub IsListedIn : Catalogue → List Query → Plan → List Bool → Type 0
IsListedIn catalogue queries plan set =
    IsUnionListed (rules_of catalogue.rules) (views_of catalogue.fragments) (patterns_of catalogue.fragments) (queries_of queries) (plan_query plan) set

-- The union of queries over fragments is an executable rewriting of the union.
abbrev pub AreRewritingOf : Catalogue → List Query → List ConjunctiveQuery → Type 0
AreRewritingOf catalogue queries others =
    IsExecutableUnion (rules_of catalogue.rules) (views_of catalogue.fragments) (patterns_of catalogue.fragments) (queries_of queries) others

-- One of the queries over fragments maps onto a set of the plan's atoms that has one of these sets within it.
abbrev pub OneMapsOntoOne : List ConjunctiveQuery → ConjunctiveQuery → List (List Bool) → Type 0
OneMapsOntoOne others plan sets = (other : ConjunctiveQuery) × Contains others other × MapsOntoOne other plan sets
