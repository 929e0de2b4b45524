-- How a set of a plan's atoms is tested: its part of the plan's expansion, chased, receives the query or not.
use Rattle.std.specs.Prelude.{◌≡◌, Bool, List, length}
use Rattle.esto_mapping.specs.declared.catalogue.Catalogue.{Catalogue}
use Rattle.esto_constraint.specs.Constraints.{rules_of}
use Rattle.esto_query.specs.Making.{query_of}
use Rattle.esto_query.specs.declared.query.Query.{Query}
use Rattle.esto_semantics.specs.Listed.{AnswersQuery}
use Rattle.esto_semantics.specs.Maps.{AreFlat}
use Rattle.esto_semantics.specs.Plans.{IsUniversalPlan}
use Rattle.esto_views.specs.Expanded.{Expands}
use Rattle.esto_semantics.specs.Expanded.{facts_of}
use Rattle.esto_views.specs.Fragments.{views_of}
use Rattle.esto_views.specs.Plans.{plan_query}
use Rattle.esto_semantics.specs.declared.expanded.ExpandedFact.{ExpandedFact}
use Rattle.esto_views.specs.declared.plan.Plan.{Plan}

-- What a search is given: a plan that is universal for the query under the catalogue's rules, with as long a head, and the facts of the plan's expansion.
pub record IsSearch (catalogue : Catalogue) (query : Query) (plan : Plan) (expanded : List ExpandedFact) : Type 0 where
  pub same_length : length plan.head ≡ length query.head
  pub universal : IsUniversalPlan (rules_of catalogue.rules) (views_of catalogue.fragments) (query_of query) (plan_query plan)
  pub expands : Expands plan catalogue.fragments expanded
  pub flat : AreFlat (facts_of expanded)

-- The set of the plan's atoms answers the query over the catalogue.
abbrev pub Answers : Catalogue → Query → Plan → List Bool → Type 0
Answers catalogue query plan set =
    AnswersQuery (rules_of catalogue.rules) (views_of catalogue.fragments) (query_of query) (plan_query plan) set
