-- The plan of the made query over the made catalogue, and its list.
use Rattle.std.proofs.Common.{◌≡◌, ◌↔◌, ◌<◌, ℕ, Bool, List, [], length, get_or, slice_get, Some, Contains, sym, ap, subst, ◌∙◌, arith}
use Rattle.std.proofs.lemmas.List.{length-map}
use Rattle.std.proofs.lemmas.List.Elements.{All-contains}
use Rattle.std.proofs.lemmas.Option.{get_or_from_slice_get}
use Rattle.esto_mapping.specs.declared.catalogue.Catalogue.{Catalogue}
use Rattle.esto_constraint.specs.Constraints.{rules_of}
use Rattle.esto_list.specs.Items.{sets_of, totals_of}
use Rattle.esto_list.specs.declared.listing.Listed.{Listed}
use Rattle.esto_query.specs.Making.{query_of}
use Rattle.esto_query.specs.declared.query.Query.{Query}
use Rattle.esto_semantics.specs.Access.{IsStatedOrder}
use Rattle.esto_semantics.specs.AccessLaws.{NumbersAreStated}
use Rattle.esto_semantics.specs.Listed.{AreListed, IsListed, IsPick}
use Rattle.esto_semantics.specs.ListedLaws.{NoRewritingExists}
use Rattle.esto_semantics.specs.Plans.{IsUniversalPlan}
use Rattle.esto_semantics.specs.Queries.{ConjunctiveQuery}
use Rattle.esto_semantics.specs.Rewritings.{IsPlanFor}
use Rattle.esto_semantics.specs.Rules.{Rule, AreRules}
use Rattle.esto_term.specs.Sets.{AreInOrder}
use Rattle.esto_universal.specs.Planned.{IsPlanOfRun}
use Rattle.esto_term.proofs.ListLemmas.{Contains-at, Contains-map, Contains-nil, map_at}
use Rattle.esto_views.specs.Fragments.{views_of, patterns_of}
use Rattle.esto_views.specs.Plans.{plan_query}
use Rattle.esto_views.specs.declared.plan.Plan.{Plan}
use Rattle.esto_bench.specs.Case.{IsMadeCatalogue, IsMadeQuery, made_names, made_patterns, made_query, made_views}
use Rattle.esto_bench.specs.Made.{CountsAnswers, IsItemOfCase, IsListOfCase, IsPlanOfCase}
use Rattle.esto_bench.specs.Summary.{IsSummaryOfCase}
use Rattle.esto_bench.specs.declared.summary.Summary.{Summary}
use Rattle.esto_bench.proofs.CaseLemmas.{chain}
use Rattle.esto_bench.proofs.ViewLemmas.{fragment_a, rewrites, satisfied}

module _ (size : ℕ) (catalogue : Catalogue) (made : IsMadeCatalogue size catalogue) where
  -- what is so of the made rules and views is so of the catalogue's
  pub of_catalogue : (P : List Rule → List ConjunctiveQuery → Type 0) → P [] (made_views size) → P (rules_of catalogue.rules) (views_of catalogue.fragments)
  of_catalogue P holds = subst (λ it. P it (views_of catalogue.fragments)) (sym made.rules) (subst (P []) (sym made.views) holds)

  pub from_catalogue : (P : List Rule → List ConjunctiveQuery → Type 0) → P (rules_of catalogue.rules) (views_of catalogue.fragments) → P [] (made_views size)
  from_catalogue P holds = subst (P []) made.views (subst (λ it. P it (views_of catalogue.fragments)) made.rules holds)

  module _ (query : Query) (is_query : IsMadeQuery size query) (plan : Plan) where
    pub planned_by : IsPlanOfCase size plan → IsPlanOfRun (rules_of catalogue.rules) (views_of catalogue.fragments) query.names (query_of query) plan
    planned_by planned =
        of_catalogue (λ rules views. IsPlanOfRun rules views query.names (query_of query) plan)
        (subst (λ it. IsPlanOfRun [] (made_views size) it (query_of query) plan) (sym is_query.names)
        (subst (λ it. IsPlanOfRun [] (made_views size) (made_names size) it plan) (sym is_query.query_is) planned))

    pub plan_of_case : IsPlanOfRun (rules_of catalogue.rules) (views_of catalogue.fragments) query.names (query_of query) plan → IsPlanOfCase size plan
    plan_of_case planned =
        subst (λ it. IsPlanOfRun [] (made_views size) (made_names size) it plan) is_query.query_is
        (subst (λ it. IsPlanOfRun [] (made_views size) it (query_of query) plan) is_query.names
        (from_catalogue (λ rules views. IsPlanOfRun rules views query.names (query_of query) plan) planned))

    pub listed_of_case : (set : List Bool)
        → IsListed (rules_of catalogue.rules) (views_of catalogue.fragments) (patterns_of catalogue.fragments) (query_of query) (plan_query plan) set
        ↔ IsListed [] (made_views size) (made_patterns size) (made_query size) (plan_query plan) set
    listed_of_case set = (
      (λ listed. subst (λ it. IsListed [] (made_views size) (made_patterns size) it (plan_query plan) set) is_query.query_is
          (subst (λ it. IsListed [] (made_views size) it (query_of query) (plan_query plan) set) made.patterns
          (from_catalogue (λ rules views. IsListed rules views (patterns_of catalogue.fragments) (query_of query) (plan_query plan) set) listed))),
      (λ listed. of_catalogue (λ rules views. IsListed rules views (patterns_of catalogue.fragments) (query_of query) (plan_query plan) set)
          (subst (λ it. IsListed [] (made_views size) it (query_of query) (plan_query plan) set) (sym made.patterns)
          (subst (λ it. IsListed [] (made_views size) (made_patterns size) it (plan_query plan) set) (sym is_query.query_is) listed))),
    )

    -- ---- the list

    -- the listed sets of the plan under the catalogue's rules, in order, are those of the made case
    pub list_of_case : (sets : List (List Bool)) → ((set : List Bool) → Contains sets set
        ↔ IsListed (rules_of catalogue.rules) (views_of catalogue.fragments) (patterns_of catalogue.fragments) (query_of query) (plan_query plan) set)
        → (items : List Listed) → ((set : List Bool) → Contains (sets_of items) set ↔ Contains sets set) → AreInOrder (sets_of items)
        → AreListed [] (made_views size) (made_patterns size) (made_query size) (plan_query plan) (sets_of items)
    list_of_case sets listed items members ordered = record {
      exact = λ set. (
        (λ inside. (listed_of_case set).0 ((listed set).0 ((members set).0 inside))),
        (λ is_listed. (members set).1 ((listed set).1 ((listed_of_case set).1 is_listed))),
      );
      ordered = ordered;
    }

-- no rule is one
pub none_are_rules : (catalogue : Catalogue) → rules_of catalogue.rules ≡ [] → AreRules (rules_of catalogue.rules)
none_are_rules catalogue none rule inside = absurd (Contains-nil rule (subst (λ it. Contains it rule) none inside))

module _ (size : ℕ) (plan : Plan) (items : List Listed) (list : IsListOfCase size plan items) where
  -- the item at a place of the list
  pub item_of_case : (place : ℕ) (item : Listed) → slice_get items place ≡ Some item → IsItemOfCase size plan item
  item_of_case place item there = record {
    set = (list.listed.exact item.set).0 (Contains-map (λ (it : Listed). it.set) items item (Contains-at items place item there));
    order = All-contains (λ (it : Listed). IsStatedOrder (made_patterns size) (plan_query plan).body it.set it.order) items item list.orders
        (Contains-at items place item there);
  }

  pub place_there : (place : ℕ) → IsPick (totals_of items) place → place < length items
  place_there place pick = let long = length-map items (λ (it : Listed). it.weight) in omega (arith, pick.there, long)

  -- what the pick weighs
  pub pick_weighs : (place : ℕ) (item : Listed) → slice_get items place ≡ Some item → get_or (totals_of items) place 0 ≡ item.weight
  pick_weighs place item there = get_or_from_slice_get (totals_of items) place item.weight 0 (map_at (λ (it : Listed). it.weight) items place item there)

  -- the summary
  pub summed_up : IsPlanOfCase size plan → (place : ℕ) → IsPick (totals_of items) place → (item : Listed) → slice_get items place ≡ Some item → (rows : ℕ)
      → CountsAnswers size rows → (summary : Summary)
      → summary ≡ record { plan = length plan.atoms; rewritings = length items; weight = item.weight; rows = rows }
      → IsSummaryOfCase size summary
  summed_up planned place pick item there rows (answers, once, exact, counted) summary is = record {
    plan = plan;
    planned = planned;
    items = items;
    listed = list.listed;
    weighed = list.weighed;
    pick = place;
    picked = pick;
    answers = answers;
    exact = exact;
    once = once;
    told = is ∙ (λ i. record { plan = length plan.atoms; rewritings = length items; weight = sym (pick_weighs place item there) i; rows = counted i });
  }

  -- the list is not empty, since the fragments A rewrite the query
  pub some_listed : 0 < size → NumbersAreStated → NoRewritingExists → IsPlanFor (made_query size) (plan_query plan)
      → IsUniversalPlan [] (made_views size) (made_query size) (plan_query plan) → items ≡ [] → ⊥
  some_listed some stated none form universal empty =
      (none [] (made_views size) (made_patterns size) (made_query size) (plan_query plan) (sets_of items) form universal (satisfied (made_query size))
      list.listed).0
      (ap sets_of empty) (chain fragment_a size) (rewrites size some stated)
