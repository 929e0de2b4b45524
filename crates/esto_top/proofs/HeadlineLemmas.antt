-- What `list` answers where the files say a catalogue and a query over it.
use Rattle.std.proofs.Common.{◌≡◌, ℕ, Bool, List, [], ◌∷◌, All, Some, inl, inr, refl, ap, subst}
use Rattle.std.specs.List.{AllZip}
use Rattle.std.proofs.lemmas.List.Elements.{All-head, All-tail}
use Rattle.esto_mapping.specs.Catalogues.{AreSame}
use Rattle.esto_mapping.specs.declared.catalogue.Catalogue.{Catalogue}
use Rattle.esto_chase_laws.specs.declared.clash.Clash.{Clash}
use Rattle.esto_constraint.specs.Constraints.{rules_of}
use Rattle.esto_list.specs.Items.{sets_of, totals_of}
use Rattle.esto_list.specs.declared.listing.Listed.{Listed}
use Rattle.esto_ports.specs.Files.{Files}
use Rattle.esto_query.specs.Making.{query_of}
use Rattle.esto_query.specs.declared.query.Query.{Query}
use Rattle.esto_semantics.specs.Listed.{chosen, IsWeight}
use Rattle.esto_semantics.specs.ListedLaws.{AreWeights}
use Rattle.esto_semantics.specs.Plans.{IsUniversalPlan}
use Rattle.esto_semantics.specs.Rewritings.{IsPlanFor}
use Rattle.esto_views.specs.Fragments.{views_of, patterns_of, weights_of}
use Rattle.esto_views.specs.Plans.{plan_query}
use Rattle.esto_views.specs.declared.plan.Plan.{Plan}
use Rattle.esto_course.specs.Course.{and_then, gives, judges}
use Rattle.esto_top.specs.Headline.{FilesSay, HasAnswers, PrintsExactly, IsExactList, IsExactRefusal, IsEmptyWithoutRewriting, OutcomesAreLists}
use Rattle.esto_top.specs.Headline.{OutcomesAreRefusals}
use Rattle.esto_status.specs.Line.{line_of}
use Rattle.esto_top.specs.List.{list_course, lists_queries, lists_query}
use Rattle.esto_top.specs.Outcome.{Says}
use Rattle.esto_top.specs.Grammar.{course_of}
use Rattle.esto_status.specs.declared.reply.Reply.{Reply}
use Rattle.esto_status.specs.declared.reply.Reply.TheVariants.{Done}
use Rattle.esto_status.specs.declared.status.Status.{Status}
use Rattle.esto_status.specs.declared.status.Status.TheVariants as status
use Rattle.esto_query.specs.Same.{AreSameQueries, IsSameQuery}
use Rattle.esto_opening.specs.Opening.{opens_catalogue, opens_union}
use Rattle.esto_top.proofs.DataLemmas.{says_fact}
use Rattle.esto_top.specs.Laws.{ListingLaws, OpeningLaws}
use Rattle.esto_status.specs.Calm.{Leads, SaysAlways}
use Rattle.esto_status.proofs.LeadLemmas.{then-leads, leads-more, gives-leads}
use Rattle.esto_top.proofs.SayLemmas.{alone_opens, catalogue_leads, catalogue_opens, one_alone, union_leads}
use Rattle.esto_rewriting.specs.Listing.{IsClash, IsListOf, IsListing, IsPlanned}

-- ---- the items

-- what holds of each item holds of the sets and the weights, pair by pair
items_zip : (P : List Bool → ℕ → Type 0) (items : List Listed) → All (λ (item : Listed). P item.set item.weight) items
    → AllZip P (sets_of items) (totals_of items)
items_zip P [] all = tt
items_zip P (item ∷ items) all =
    (All-head (λ (it : Listed). P it.set it.weight) item items all, items_zip P items (All-tail (λ (it : Listed). P it.set it.weight) item items all))

no_item : (items : List Listed) → sets_of items ≡ [] → items ≡ []
no_item [] none = refl
no_item (item ∷ items) none = absurd (cc)

-- ---- the text

module _ (laws : ListingLaws) (catalogue : Catalogue) (query : Query) where
  module _ (plan : Plan) (planned : IsPlanned catalogue query plan) where
    is_for : IsPlanFor (query_of query) (plan_query plan)
    is_for = laws.form catalogue query plan planned

    universal : IsUniversalPlan (rules_of catalogue.rules) (views_of catalogue.fragments) (query_of query) (plan_query plan)
    universal = laws.universal catalogue query plan planned

    plan_tells : HasAnswers catalogue query
    plan_tells = laws.satisfiable catalogue query plan planned

    -- the list is empty exactly where there is no executable rewriting
    pub empty-without : (items : List Listed) → IsListOf catalogue query plan items → IsEmptyWithoutRewriting catalogue query items
    empty-without items list =
        let none = laws.none (rules_of catalogue.rules) (views_of catalogue.fragments) (patterns_of catalogue.fragments) (query_of query)
        (plan_query plan) (sets_of items) is_for universal plan_tells list.sets in
        (λ empty. none.0 (ap sets_of empty), λ absent. no_item items (none.1 absent))

    module _ (text : List ℕ) (listing : IsListing catalogue query plan text) where
      weights_are : AreWeights (weights_of catalogue.fragments) (plan_query plan) (sets_of listing.items) (totals_of listing.items)
      weights_are = items_zip (λ set weight. IsWeight (weights_of catalogue.fragments) (chosen set (plan_query plan).body) weight) listing.items
          listing.list.weights

      pub prints-exactly : PrintsExactly catalogue query text
      prints-exactly =
          record {
            plan = plan;
            items = listing.items;
            planned = planned;
            list = listing.list;
            printed = listing.printed;
            universal = universal;
            core = laws.core catalogue query plan planned;
            only_core = laws.only_core catalogue query plan planned;
            complete = λ other rewriting.
                laws.covers (rules_of catalogue.rules) (views_of catalogue.fragments) (patterns_of catalogue.fragments) (query_of query) (plan_query plan)
                other (sets_of listing.items) is_for.flat_body universal plan_tells listing.list.sets rewriting;
            lightest = λ pick is_pick other weight rewriting weighs.
                laws.lightest (rules_of catalogue.rules) (views_of catalogue.fragments) (patterns_of catalogue.fragments) (query_of query)
                (plan_query plan) (sets_of listing.items) (weights_of catalogue.fragments) (totals_of listing.items) is_for.flat_body universal plan_tells
                listing.list.sets weights_are pick is_pick other weight rewriting weighs;
            empty = empty-without listing.items listing.list;
          }

-- ---- the query

-- what is told of a query: its exact list where it is satisfiable, and else its exact refusal
pub data IsTold (catalogue : Catalogue) (query : Query) (said : Status) (text : List ℕ) : Type 0 where
  lists : HasAnswers catalogue query → IsExactList catalogue query said text → IsTold catalogue query said text
  refuses : ¬ (HasAnswers catalogue query) → IsExactRefusal catalogue query said text → IsTold catalogue query said text

module _ (laws : ListingLaws) (catalogue : Catalogue) (query : Query) where
  -- the query has a plan and its list is printed, or it is refused
  pub query_told : (read_catalogue : Catalogue) → AreSame catalogue read_catalogue → (read : Query) → IsSameQuery query read
      → Leads (lists_query read_catalogue read) (IsTold catalogue query status.Done) (λ said. IsTold catalogue query said (line_of said))
  unfolding judges and_then
  query_told other alike read same = record {
    goes = λ text (plan, planned, listing). printed plan (laws.planning.plan_moved catalogue other query read plan alike same planned) text
        (laws.planning.text_moved catalogue other query read plan text alike same listing);
    stops = λ said caused stop. elim stop [
      | inl (clash, clashes, is) ↦
          refused clash (laws.planning.clash_moved catalogue other query read clash alike same clashes) said is
      | inr (plan, planned, never) ↦ absurd never
    ];
  }
    where
      printed : (plan : Plan) → IsPlanned catalogue query plan → (text : List ℕ) → IsListing catalogue query plan text
          → IsTold catalogue query status.Done text
      printed plan planned text listing =
          lists (laws.satisfiable catalogue query plan planned) (refl, prints-exactly laws catalogue query plan planned text listing)

      refused : (clash : Clash) → IsClash catalogue query clash → (said : Status) → said ≡ status.Unsatisfiable clash
          → IsTold catalogue query said (line_of said)
      refused clash clashes said is = refuses (laws.unsatisfiable catalogue query clash clashes) (clash, clashes, is, ap line_of is)

-- ---- the course

module _ (opening : OpeningLaws) (files : Files) (catalogue_name query_name : List ℕ) (catalogue : Catalogue) (queries : List Query) where
  module _ (Fact : Status → List ℕ → Type 0)
      (tell : (other : Catalogue) → AreSame catalogue other → (read : List Query) → AreSameQueries queries read
      → Leads (lists_queries other read) (Fact status.Done) (λ said. Fact said (line_of said))) where
    abbrev Replied : Reply → Type 0
    Replied reply = (text : List ℕ) × (reply ≡ Done text) × Fact status.Done text

    abbrev Refused : Status → Type 0
    Refused said = Fact said (line_of said)

    reply_leads : (text : List ℕ) → Fact status.Done text → Leads (gives (Done text)) Replied Refused
    reply_leads text fact =
        leads-more _ (λ reply. reply ≡ Done text) _ Refused (λ reply is. (text, is, fact)) (gives-leads (Done text) Refused)

    -- what is told of the queries that were read is what `list` says
    pub list_says : (opens_catalogue (Some files) catalogue_name).goes catalogue → (opens_union (Some files) query_name catalogue).goes queries
        → SaysAlways (list_course (Some files) catalogue_name query_name) Fact
    list_says opens reads =
        then-leads _ _ _ _ _ (catalogue_leads opening files catalogue_name query_name catalogue Refused opens) (λ other alike.
        then-leads _ _ _ _ _ (union_leads opening files catalogue_name query_name catalogue Refused queries reads other alike) (λ read same.
        then-leads _ _ _ _ _ (tell other alike read same) reply_leads))

module _ (opening : OpeningLaws) (laws : ListingLaws) (files : Files) (catalogue_name query_name : List ℕ) (catalogue : Catalogue) (query : Query)
    (say : FilesSay files catalogue_name query_name catalogue query) where
  told : (said : Status) (text : List ℕ) → Says (list_course (Some files) catalogue_name query_name) ⊥ said text → IsTold catalogue query said text
  told said text says =
      says_fact _ (IsTold catalogue query) said text
      (list_says opening files catalogue_name query_name catalogue (query ∷ []) (IsTold catalogue query)
      (λ other alike. one_alone query
      (λ read. Leads (lists_queries other read) (IsTold catalogue query status.Done) (λ said. IsTold catalogue query said (line_of said)))
      (query_told laws catalogue query other alike))
      (catalogue_opens files catalogue_name catalogue say.says_catalogue) (alone_opens files query_name catalogue opening.alone query say.says_query)) says

  -- a satisfiable query has its exact list
  pub exact_list : (said : Status) (text : List ℕ) → Says (list_course (Some files) catalogue_name query_name) ⊥ said text
      → HasAnswers catalogue query → IsExactList catalogue query said text
  exact_list said text says answers = by (told said text says)
    where
      by : IsTold catalogue query said text → IsExactList catalogue query said text
      by (lists some exact) = exact
      by (refuses none exact) = absurd (none answers)

  -- a query is refused, with its clash, exactly where it is unsatisfiable
  pub exact_refusal : (said : Status) (text : List ℕ) → Says (list_course (Some files) catalogue_name query_name) ⊥ said text
      → ¬ (HasAnswers catalogue query) → IsExactRefusal catalogue query said text
  exact_refusal said text says none = by (told said text says)
    where
      by : IsTold catalogue query said text → IsExactRefusal catalogue query said text
      by (lists answers exact) = absurd (none answers)
      by (refuses unsatisfiable exact) = exact

-- ---- the outcomes

module _ (opening : OpeningLaws) (laws : ListingLaws) where
  pub outcomes_are_lists : OutcomesAreLists
  outcomes_are_lists words files catalogue_name query_name catalogue query said text asks say outcome =
      exact_list opening laws files catalogue_name query_name catalogue query say said text
      (subst (λ it. Says (course_of it (Some files)) ⊥ said text) asks outcome)

  pub outcomes_are_refusals : OutcomesAreRefusals
  outcomes_are_refusals words files catalogue_name query_name catalogue query said text asks say outcome = (
    exact_refusal opening laws files catalogue_name query_name catalogue query say said text
        (subst (λ it. Says (course_of it (Some files)) ⊥ said text) asks outcome),
    λ refusal. laws.unsatisfiable catalogue query refusal.0 refusal.1,
  )
