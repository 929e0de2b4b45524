-- Laws of printed plans, of clashes, and of the items of a list.
use Rattle.std.specs.Prelude.{◌≡◌, ℕ, ◌<◌, IsTrue, List, length, slice_get, Option, Some}
use Rattle.esto_mapping.specs.declared.catalogue.Catalogue.{Catalogue}
use Rattle.esto_chase_laws.specs.declared.clash.Clash.{Clash}
use Rattle.esto_constraint.specs.Constraints.{rule_of, rules_of}
use Rattle.esto_constraint.specs.declared.rule.Constraint.{Constraint}
use Rattle.esto_core.specs.Cored.{IsOnlyCore}
use Rattle.esto_rewriting.specs.PrintedLaws.{PrintedPlanExcludesClash, PrintedPlanIsOne}
use Rattle.esto_list.specs.declared.listing.Listed.{Listed}
use Rattle.esto_semantics.specs.Cores.{HasNoRetract}
use Rattle.esto_query.specs.Making.{query_of}
use Rattle.esto_query.specs.declared.query.Query.{Query}
use Rattle.esto_semantics.specs.AccessLaws.{StatedOrderIsOne}
use Rattle.esto_semantics.specs.Containment.{IsSatisfiable}
use Rattle.esto_semantics.specs.ListedLaws.{ListedIsOne, PickIsOne, WeightIsOne}
use Rattle.esto_semantics.specs.Plans.{IsUniversalPlan}
use Rattle.esto_semantics.specs.Rewritings.{IsPlanFor}
use Rattle.esto_semantics.specs.Rules.{IsRule}
use Rattle.esto_semantics.specs.Unions.{ReceivesUnions}
use Rattle.esto_universal.specs.PlannedLaws.{ClashOfRunIsOne}
use Rattle.esto_views.specs.Fragments.{views_of}
use Rattle.esto_views.specs.Plans.{plan_query, IsPlanOver}
use Rattle.esto_views.specs.declared.plan.Plan.{Plan}
use Rattle.esto_rewriting.specs.Choice.{IsItemOf, IsPlace}
use Rattle.esto_rewriting.specs.Listing.{IsClash, IsListOf, IsPlanned}

-- ---- plans and clashes

-- What holds of each printed plan.
abbrev pub HoldsOfPlans : (Catalogue → Query → Plan → Type 0) → Type 0
HoldsOfPlans Fact = (catalogue : Catalogue) (query : Query) (plan : Plan) → IsPlanned catalogue query plan → Fact catalogue query plan

-- It has the form of a plan for the query: its head is as long as the query's, and made of its atoms.
abbrev pub PlanHasForm : Type 0
PlanHasForm = HoldsOfPlans (λ catalogue query plan. IsPlanFor (query_of query) (plan_query plan))

-- It is over the catalogue's fragments.
abbrev pub PlanIsOver : Type 0
PlanIsOver = HoldsOfPlans (λ catalogue query plan. IsPlanOver plan catalogue.fragments)

-- It is universal for the query.
abbrev pub PlanIsUniversal : Type 0
PlanIsUniversal =
    HoldsOfPlans (λ catalogue query plan. IsUniversalPlan (rules_of catalogue.rules) (views_of catalogue.fragments) (query_of query) (plan_query plan))

-- It receives unions for the query.
abbrev pub PlanReceivesUnions : Type 0
PlanReceivesUnions =
    HoldsOfPlans (λ catalogue query plan. ReceivesUnions (rules_of catalogue.rules) (views_of catalogue.fragments) (query_of query) (plan_query plan))

-- Where the catalogue asks for the core, it retracts into no proper sublist of itself.
abbrev pub CoreHasNoRetract : Type 0
CoreHasNoRetract = HoldsOfPlans (λ catalogue query plan. IsTrue catalogue.core → HasNoRetract (plan_query plan))

-- There it is the only core for the query.
abbrev pub CoreIsOnly : Type 0
CoreIsOnly = HoldsOfPlans (λ catalogue query plan. IsTrue catalogue.core
    → IsOnlyCore (rules_of catalogue.rules) (views_of catalogue.fragments) (query_of query) (plan_query plan))

-- A query that has a printed plan is satisfiable.
abbrev pub PlanTellsAnswers : Type 0
PlanTellsAnswers = HoldsOfPlans (λ catalogue query plan. IsSatisfiable (rules_of catalogue.rules) (query_of query))

-- A query whose run ends with a clash is not.
abbrev pub ClashExcludesAnswers : Type 0
ClashExcludesAnswers =
    (catalogue : Catalogue) (query : Query) (clash : Clash) → IsClash catalogue query clash → ¬ (IsSatisfiable (rules_of catalogue.rules) (query_of query))

-- ---- the items of a list

-- An item of a plan's list has a listed set of the plan, and its stated order.
abbrev pub ItemIsListed : Type 0
ItemIsListed =
    (catalogue : Catalogue) (query : Query) (plan : Plan) (items : List Listed) (place : ℕ) (item : Listed) → IsListOf catalogue query plan items
    → slice_get items place ≡ Some item → IsItemOf catalogue query plan item

-- The place that is chosen is within the list.
abbrev pub PlaceIsWithin : Type 0
PlaceIsWithin = (items : List Listed) (number : Option ℕ) (place : ℕ) → IsPlace items number place → place < length items

-- ---- what they rest on

-- The laws by which plans, clashes and lists are one.
pub record PlanLaws : Type 0 where
  pub rules : (constraint : Constraint) → IsRule (rule_of constraint)
  pub plan : PrintedPlanIsOne
  pub clash : ClashOfRunIsOne
  pub apart : PrintedPlanExcludesClash
  pub sets : ListedIsOne
  pub orders : StatedOrderIsOne
  pub weights : WeightIsOne
  pub picks : PickIsOne
