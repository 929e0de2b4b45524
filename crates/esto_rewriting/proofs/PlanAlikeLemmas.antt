-- Over catalogues that say the same, plans, clashes and lists are one.
use Rattle.std.proofs.Common.{◌≡◌, ℕ, List, refl, sym, ap, subst, ◌∙◌}
use Rattle.either.specs.declared.Either.{Either}
use Rattle.either.specs.declared.Either.TheVariants.{Left, Right}
use Rattle.esto_mapping.specs.Catalogues.{AreSame}
use Rattle.esto_mapping.specs.declared.catalogue.Catalogue.{Catalogue}
use Rattle.esto_chase_laws.specs.declared.clash.Clash.{Clash}
use Rattle.esto_constraint.specs.Constraints.{rules_of}
use Rattle.esto_course.specs.Course.{judges}
use Rattle.esto_course.proofs.Determined.{judges_agree}
use Rattle.esto_list.specs.Items.{sets_of}
use Rattle.esto_list.specs.Text.{IsListText}
use Rattle.esto_list.specs.declared.listing.Listed.{Listed}
use Rattle.esto_query.specs.Making.{query_of}
use Rattle.esto_query.specs.declared.query.Query.{Query}
use Rattle.esto_semantics.specs.Listed.{AreListed}
use Rattle.esto_semantics.specs.Rules.{AreRules}
use Rattle.esto_views.specs.Fragments.{views_of, patterns_of}
use Rattle.esto_views.specs.Plans.{plan_query}
use Rattle.esto_views.specs.declared.plan.Plan.{Plan}
use Rattle.esto_query.specs.Same.{IsSameQuery}
use Rattle.esto_status.specs.Calm.{AgreeCalmly}
use Rattle.esto_status.specs.declared.status.Status.TheVariants as status
use Rattle.esto_constraint.proofs.RuleLemmas.{are_rules}
use Rattle.esto_rewriting.specs.Alike.{EndIsOne, IsSameEnd, IsSamePlan, ListIsOne, ListingIsOne, PlanIsOne}
use Rattle.esto_rewriting.specs.PlannedLaws.{PlanLaws}
use Rattle.esto_rewriting.specs.Listing.{IsClash, IsListing, IsListOf, IsPlanned}
use Rattle.esto_rewriting.specs.Planning.{ends_query, lists_plan, plans_query}
use Rattle.esto_rewriting.proofs.PlanMovedLemmas.{list_moved, listing_moved, planned_moved, clash_moved}
use Rattle.esto_rewriting.proofs.OneListLemmas.{items_same, text_same}

-- ---- over one catalogue

module _ (laws : PlanLaws) (catalogue : Catalogue) (query : Query) where
  items_one : (plan other_plan : Plan) → plan_query plan ≡ plan_query other_plan → (items others : List Listed) → IsListOf catalogue query plan items
      → IsListOf catalogue query other_plan others → items ≡ others
  items_one plan other_plan plans items others list other_list =
      items_same laws.orders laws.weights catalogue.fragments plan other_plan items others plans
      (laws.sets (rules_of catalogue.rules) (views_of catalogue.fragments) (patterns_of catalogue.fragments) (query_of query) (plan_query plan)
      (sets_of items) (sets_of others) list.sets
      (subst (λ it. AreListed (rules_of catalogue.rules) (views_of catalogue.fragments) (patterns_of catalogue.fragments) (query_of query) it
      (sets_of others)) (sym plans) other_list.sets))
      list.orders other_list.orders list.weights other_list.weights

  texts_one : (plan other_plan : Plan) → IsSamePlan plan other_plan → (text other_text : List ℕ) → IsListing catalogue query plan text
      → IsListing catalogue query other_plan other_text → text ≡ other_text
  texts_one plan other_plan plans text other_text listing other_listing =
      text_same laws.picks catalogue.fragments catalogue.fragments plan other_plan other_listing.items text other_text refl plans
      (subst (λ it. IsListText catalogue.fragments plan it text)
      (items_one plan other_plan plans.0 listing.items other_listing.items listing.list other_listing.list) listing.printed)
      other_listing.printed

  rules_are : AreRules (rules_of catalogue.rules)
  rules_are = are_rules laws.rules catalogue.rules

  plans_one : (plan other_plan : Plan) → IsPlanned catalogue query plan → IsPlanned catalogue query other_plan → IsSamePlan plan other_plan
  plans_one plan other_plan =
      laws.plan catalogue.core (rules_of catalogue.rules) (views_of catalogue.fragments) query.names (query_of query) plan other_plan rules_are

  clashes_one : (clash other_clash : Clash) → IsClash catalogue query clash → IsClash catalogue query other_clash → clash ≡ other_clash
  clashes_one clash other_clash = laws.clash (rules_of catalogue.rules) (query_of query) clash other_clash rules_are

  apart : (plan : Plan) (clash : Clash) → IsPlanned catalogue query plan → IsClash catalogue query clash → ⊥
  apart plan clash =
      laws.apart catalogue.core (rules_of catalogue.rules) (views_of catalogue.fragments) query.names (query_of query) plan clash rules_are

-- ---- over catalogues that say the same

module _ (laws : PlanLaws) (catalogue other : Catalogue) (query other_query : Query) (alike : AreSame catalogue other)
    (same : IsSameQuery query other_query) where
  same_end : (end other_end : Either Plan Clash) → (ends_query catalogue query).goes end → (ends_query other other_query).goes other_end
      → IsSameEnd end other_end
  unfolding judges
  same_end (Left plan) (Left other_plan) here there =
      plans_one laws catalogue query plan other_plan here (planned_moved catalogue other alike query other_query same other_plan there)
  same_end (Left plan) (Right clash) here there =
      apart laws catalogue query plan clash here (clash_moved catalogue other alike query other_query same clash there)
  same_end (Right clash) (Left plan) here there =
      apart laws catalogue query plan clash (planned_moved catalogue other alike query other_query same plan there) here
  same_end (Right clash) (Right other_clash) here there =
      clashes_one laws catalogue query clash other_clash here (clash_moved catalogue other alike query other_query same other_clash there)

  end_agrees : AgreeCalmly IsSameEnd (ends_query catalogue query) (ends_query other other_query)
  unfolding judges
  end_agrees = judges_agree _ _ _ _ _ _ same_end
      (λ said other_said caused other_caused here there. absurd here) (λ value said caused here there. there) (λ value said caused here there. there)

  plan_agrees : AgreeCalmly IsSamePlan (plans_query catalogue query) (plans_query other other_query)
  plan_agrees = judges_agree _ _ _ _ _ _
      (λ plan other_plan here there. plans_one laws catalogue query plan other_plan here
      (planned_moved catalogue other alike query other_query same other_plan there))
      (λ said other_said caused other_caused here there. here.2 ∙ ap status.Unsatisfiable (clashes_one laws catalogue query here.0 there.0 here.1
      (clash_moved catalogue other alike query other_query same there.0 there.1)) ∙ sym there.2)
      (λ plan said caused here there. apart laws catalogue query plan there.0 here (clash_moved catalogue other alike query other_query same there.0 there.1))
      (λ plan said caused here there. apart laws catalogue query plan there.0 (planned_moved catalogue other alike query other_query same plan here) there.1)

  list_agrees : (plan other_plan : Plan) → IsSamePlan plan other_plan
      → AgreeCalmly ◌≡◌ (lists_plan catalogue query plan) (lists_plan other other_query other_plan)
  list_agrees plan other_plan plans = judges_agree _ _ _ _ _ _
      (λ items others here there. items_one laws catalogue query plan other_plan plans.0 items others here
      (list_moved catalogue other alike query other_query same other_plan others there))
      (λ said other_said caused other_caused here there. absurd here) (λ value said caused here there. there) (λ value said caused here there. there)

module _ (laws : PlanLaws) where
  pub end_one : EndIsOne
  end_one catalogue other query other_query alike same = end_agrees laws catalogue other query other_query alike same

  pub plan_one : PlanIsOne
  plan_one catalogue other query other_query alike same = plan_agrees laws catalogue other query other_query alike same

  pub list_one : ListIsOne
  list_one catalogue other query other_query plan other_plan alike same plans =
      list_agrees laws catalogue other query other_query alike same plan other_plan plans

  pub listing_one : ListingIsOne
  listing_one catalogue other query other_query plan other_plan text other_text alike same plans listing other_listing =
      texts_one laws catalogue query plan other_plan plans text other_text listing
      (listing_moved catalogue other alike query other_query same other_plan other_text other_listing)
