-- Plans, clashes and lists over one of two catalogues that say the same are ones over the other.
use Rattle.std.proofs.Common.{ℕ, List, All, sym, subst}
use Rattle.esto_mapping.specs.Catalogues.{AreSame}
use Rattle.esto_mapping.specs.declared.catalogue.Catalogue.{Catalogue}
use Rattle.esto_chase.specs.Chased.{RunClashes}
use Rattle.esto_chase_laws.specs.Runs.{start_of}
use Rattle.esto_chase_laws.specs.declared.clash.Clash.{Clash}
use Rattle.esto_constraint.specs.Constraints.{rules_of}
use Rattle.esto_rewriting.specs.Printed.{IsPrintedPlan}
use Rattle.esto_list.specs.Items.{sets_of}
use Rattle.esto_list.specs.declared.listing.Listed.{Listed}
use Rattle.esto_query.specs.Making.{query_of}
use Rattle.esto_query.specs.declared.query.Query.{Query}
use Rattle.esto_semantics.specs.Access.{Patterns, IsStatedOrder}
use Rattle.esto_semantics.specs.Listed.{AreListed, IsWeight, chosen}
use Rattle.esto_views.specs.Fragments.{views_of, patterns_of}
use Rattle.esto_views.specs.Plans.{plan_query}
use Rattle.esto_views.specs.declared.plan.Plan.{Plan}
use Rattle.esto_query.specs.Same.{IsSameQuery}
use Rattle.esto_run.proofs.SameLemmas.{same_query}
use Rattle.esto_rewriting.specs.Listing.{IsClash, IsListing, IsListOf, IsPlanned, HasListedSets}
use Rattle.esto_rewriting.proofs.OneListLemmas.{text_moved}

module _ (catalogue other : Catalogue) (alike : AreSame catalogue other) (query other_query : Query) (same : IsSameQuery query other_query) where
  pub planned_moved : (plan : Plan) → IsPlanned other other_query plan → IsPlanned catalogue query plan
  planned_moved plan planned =
      subst (λ names. IsPrintedPlan catalogue.core (rules_of catalogue.rules) (views_of catalogue.fragments) names (query_of query) plan) (sym same.names)
      (subst (λ it. IsPrintedPlan catalogue.core (rules_of catalogue.rules) (views_of catalogue.fragments) other_query.names it plan)
      (sym (same_query query other_query same))
      (subst (λ views. IsPrintedPlan catalogue.core (rules_of catalogue.rules) views other_query.names (query_of other_query) plan) (sym alike.views)
      (subst (λ rules. IsPrintedPlan catalogue.core rules (views_of other.fragments) other_query.names (query_of other_query) plan) (sym alike.rules)
      (subst (λ core. IsPrintedPlan core (rules_of other.rules) (views_of other.fragments) other_query.names (query_of other_query) plan)
      (sym alike.core) planned))))

  pub clash_moved : (clash : Clash) → IsClash other other_query clash → IsClash catalogue query clash
  clash_moved clash clashes =
      subst (λ it. RunClashes (rules_of catalogue.rules) (start_of it) clash) (sym (same_query query other_query same))
      (subst (λ rules. RunClashes rules (start_of (query_of other_query)) clash) (sym alike.rules) clashes)

  sets_moved : (plan : Plan) (items : List Listed) → HasListedSets other other_query plan items → HasListedSets catalogue query plan items
  sets_moved plan items listed =
      subst (λ it. AreListed (rules_of catalogue.rules) (views_of catalogue.fragments) (patterns_of catalogue.fragments) it (plan_query plan)
      (sets_of items)) (sym (same_query query other_query same))
      (subst (λ it. AreListed (rules_of catalogue.rules) (views_of catalogue.fragments) it (query_of other_query) (plan_query plan) (sets_of items))
      (sym alike.patterns)
      (subst (λ it. AreListed (rules_of catalogue.rules) it (patterns_of other.fragments) (query_of other_query) (plan_query plan) (sets_of items))
      (sym alike.views)
      (subst (λ it. AreListed it (views_of other.fragments) (patterns_of other.fragments) (query_of other_query) (plan_query plan) (sets_of items))
      (sym alike.rules) listed)))

  pub list_moved : (plan : Plan) (items : List Listed) → IsListOf other other_query plan items → IsListOf catalogue query plan items
  list_moved plan items list = record {
    sets = sets_moved plan items list.sets;
    orders = subst (λ (it : Patterns). All (λ (item : Listed). IsStatedOrder it (plan_query plan).body item.set item.order) items)
        (sym alike.patterns) list.orders;
    weights = subst (λ (it : List ℕ). All (λ (item : Listed). IsWeight it (chosen item.set (plan_query plan).body) item.weight) items)
        (sym alike.weights) list.weights;
  }

  -- a list over the other catalogue is one over this
  pub listing_moved : (plan : Plan) (text : List ℕ) → IsListing other other_query plan text → IsListing catalogue query plan text
  listing_moved plan text listing = record {
    items = listing.items;
    list = list_moved plan listing.items listing.list;
    printed = text_moved catalogue.fragments other.fragments plan listing.items text alike.names listing.printed;
  }
