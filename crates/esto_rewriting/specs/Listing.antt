-- The printed plan of a query, and its list.
use Rattle.std.specs.Prelude.{ℕ, List}
use Rattle.esto_mapping.specs.declared.catalogue.Catalogue.{Catalogue}
use Rattle.esto_chase.specs.Chased.{RunClashes}
use Rattle.esto_chase_laws.specs.Runs.{start_of}
use Rattle.esto_chase_laws.specs.declared.clash.Clash.{Clash}
use Rattle.esto_constraint.specs.Constraints.{rules_of}
use Rattle.esto_rewriting.specs.Printed.{IsPrintedPlan}
use Rattle.esto_list.specs.Items.{HaveOrders, HaveWeights, sets_of}
use Rattle.esto_list.specs.Text.{IsListText}
use Rattle.esto_list.specs.declared.listing.Listed.{Listed}
use Rattle.esto_query.specs.Making.{query_of}
use Rattle.esto_query.specs.declared.query.Query.{Query}
use Rattle.esto_semantics.specs.Listed.{AreListed}
use Rattle.esto_views.specs.Fragments.{views_of, patterns_of}
use Rattle.esto_views.specs.Plans.{plan_query}
use Rattle.esto_views.specs.declared.plan.Plan.{Plan}

-- The plan is the printed one: that of the query's run under the catalogue's rules, or its cored plan where the catalogue asks for the core.
abbrev pub IsPlanned : Catalogue → Query → Plan → Type 0
IsPlanned catalogue query plan =
    IsPrintedPlan catalogue.core (rules_of catalogue.rules) (views_of catalogue.fragments) query.names (query_of query) plan

-- The query's run under the catalogue's rules ends with the clash.
abbrev pub IsClash : Catalogue → Query → Clash → Type 0
IsClash catalogue query clash = RunClashes (rules_of catalogue.rules) (start_of (query_of query)) clash

-- The sets of the items are exactly the plan's listed sets, each once, in order.
abbrev pub HasListedSets : Catalogue → Query → Plan → List Listed → Type 0
HasListedSets catalogue query plan items =
    AreListed (rules_of catalogue.rules) (views_of catalogue.fragments) (patterns_of catalogue.fragments) (query_of query) (plan_query plan) (sets_of items)

-- The items are the list of a plan: its listed sets, each with its stated order and its weight.
pub record IsListOf (catalogue : Catalogue) (query : Query) (plan : Plan) (items : List Listed) : Type 0 where
  pub sets : HasListedSets catalogue query plan items
  pub orders : HaveOrders plan catalogue.fragments items
  pub weights : HaveWeights plan catalogue.fragments items

-- The text is that of the plan and of its list.
pub record IsListing (catalogue : Catalogue) (query : Query) (plan : Plan) (text : List ℕ) : Type 0 where
  pub items : List Listed
  pub list : IsListOf catalogue query plan items
  pub printed : IsListText catalogue.fragments plan items text
