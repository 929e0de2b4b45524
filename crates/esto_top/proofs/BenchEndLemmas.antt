-- The made case of a size has a summary.
use Rattle.std.proofs.Common.{◌≡◌, ◌≢◌, ◌↔◌, inl, inr, ℕ, ◌/◌, ◌<◌, Bool, List, [], ◌∷◌, length, Some, slice_get, Contains, refl, sym, ap, ◌∙◌, subst, arith}
use Rattle.std.specs.Prelude.{AllPairs, slice_index_or}
use Rattle.std.proofs.lemmas.List.{length-map}
use Rattle.std.proofs.lemmas.Option.{same_Some, slice_get_within}
use Rattle.esto_bench.specs.Case.{made_database, made_names, made_patterns, made_query, made_view, made_views, made_weights}
use Rattle.esto_bench.specs.Made.{IsListOfCase}
use Rattle.esto_bench.specs.Summary.{IsSummaryOfCase}
use Rattle.esto_bench.specs.declared.summary.Summary.{Summary}
use Rattle.esto_bench.proofs.BothLemmas.{both_at, both_long}
use Rattle.esto_bench.proofs.CaseLemmas.{chain_is, view_sound}
use Rattle.esto_bench.proofs.PlanLemmas.{some_listed}
use Rattle.esto_bench.proofs.ViewLemmas.{satisfied}
use Rattle.esto_bench.proofs.CatalogueLemmas.{variable_of, variables_apart}
use Rattle.esto_constraint.proofs.RankLemmas.{depth_of, depth-small}
use Rattle.esto_chase_laws.specs.Runs.{Step, IsEnd, IsRun, start_of}
use Rattle.esto_list.specs.Items.{totals_of}
use Rattle.esto_list.specs.declared.listing.Listed.{Listed as Item}
use Rattle.esto_query.specs.declared.query.Name.TheVariants.{Hidden}
use Rattle.esto_semantics.specs.Expansions.{FitsViews}
use Rattle.esto_semantics.specs.Listed.{AreListed}
use Rattle.esto_semantics.specs.Plans.{IsUniversalPlan}
use Rattle.esto_semantics.specs.Queries.{ConjunctiveQuery, IsQuery}
use Rattle.esto_semantics.specs.Rewritings.{IsPlanFor}
use Rattle.esto_semantics.specs.Rules.{AreRules}
use Rattle.esto_semantics.specs.declared.fact.Fact.{Fact}
use Rattle.esto_term.specs.declared.term.Term.{Term}
use Rattle.esto_term.proofs.ChoiceLemmas.{Decided, contains_more}
use Rattle.esto_term.proofs.DistinctLemmas.{decided_contains, distinct_cons, distinct_none}
use Rattle.esto_term.proofs.ListLemmas.{Contains-nil, Contains-cases, Contains-rest}
use Rattle.esto_universal.specs.Planned.{IsPlanOfRun}
use Rattle.esto_universal.proofs.PlanLemmas.{plan_of}
use Rattle.esto_universal.proofs.PlannedLemmas.{head_stays}
use Rattle.esto_views.specs.Plans.{plan_query}
use Rattle.esto_views.specs.declared.plan.Plan.{Plan}
use Rattle.esto_views.proofs.FlatLemmas.{named-flat}
use Rattle.esto_views.proofs.FormLemmas.{plan_form}
use Rattle.esto_top.specs.LawsBelow.{BelowLaws, BenchLaws}
use Rattle.esto_term.proofs.DecisionLemmas.{same_list}
use Rattle.esto_top.proofs.ListLemmas.{items_exist}
use Rattle.esto_top.proofs.PlanLemmas.{stated_exists}
use Rattle.esto_top.proofs.RewritingLemmas.{Chases, IsPlanKnown, listed_sets_exist, RunsEnd}
use Rattle.esto_top.proofs.TextLemmas.{database_answers, decided_value}

-- the things of a list, each once
each_distinct : {X : Type 0} → ((x y : X) → Decided (x ≡ y)) → (things : List X)
    → (distinct : List X) × AllPairs ◌≢◌ distinct × ((thing : X) → Contains distinct thing ↔ Contains things thing)
each_distinct decide [] = ([], distinct_none, (λ thing. (λ inside. inside, λ inside. inside)))
each_distinct {X} decide (first ∷ rest) = by (each_distinct decide rest) (decided_contains decide rest first)
  where
    by : ((distinct : List X) × AllPairs ◌≢◌ distinct × ((thing : X) → Contains distinct thing ↔ Contains rest thing)) → Decided (Contains rest first)
        → (distinct : List X) × AllPairs ◌≢◌ distinct × ((thing : X) → Contains distinct thing ↔ Contains (first ∷ rest) thing)
    by (distinct, apart, same) (inl again) = (
      distinct,
      apart,
      (λ thing. (
        (λ inside. Contains-rest first rest thing ((same thing).0 inside)),
        (λ inside. elim (Contains-cases first rest thing inside) [
          | inl is ↦ (same thing).1 (subst (Contains rest) is again)
          | inr later ↦ (same thing).1 later
        ]),
      )),
    )
    by (distinct, apart, same) (inr new) = (
      first ∷ distinct,
      distinct_cons first distinct (λ inside. new ((same first).0 inside)) apart,
      (λ thing. (
        contains_more first distinct rest same thing,
        contains_more first rest distinct (λ other. ((same other).1, (same other).0)) thing,
      )),
    )

no_rules : AreRules []
no_rules rule inside = absurd (Contains-nil rule inside)

-- a view of the case
made_view_is : (relation : ℕ) → IsQuery (made_view relation)
made_view_is relation =
    (view_sound relation (made_view relation).head (made_view relation).body (Hidden ∷ Hidden ∷ []) refl refl refl).query

module _ (laws : BelowLaws) (bench : BenchLaws) (size : ℕ) (some : 0 < size) where
  ends : RunsEnd []
  ends start is =
      laws.chase.ends [] start (λ _. 0) (depth_of []) no_rules is (λ body head inside. absurd (Contains-nil _ inside)) (λ relation. omega arith)
      (depth-small [] 0 refl (omega arith))

  chases : Chases []
  chases = record { are_rules = no_rules; ends = ends; universal = laws.chase.universal; nothing = laws.chase.nothing; begin = laws.chase.body }

  view_at : (number : ℕ) (view : ConjunctiveQuery) → slice_get (made_views size) number ≡ Some view → (relation : ℕ) × (made_view relation ≡ view)
  view_at number view at =
      let within = slice_get_within (made_views size) number view at in
      let long = both_long made_view made_view size in
      let own = both_at made_view size number (omega (arith, within, long)) in
      (number / 2, same_Some (made_view (number / 2)) view (sym own ∙ at))

  views_are : (number : ℕ) (view : ConjunctiveQuery) → slice_get (made_views size) number ≡ Some view → IsQuery view
  views_are number view at = let own = view_at number view at in subst IsQuery own.1 (made_view_is own.0)

  is : IsQuery (made_query size)
  is = chain_is (λ relation. relation) size some

  -- the plan of its run
  plan_exists : (plan : Plan) × IsPlanOfRun [] (made_views size) (made_names size) (made_query size) plan
  plan_exists = by (ends (start_of (made_query size)) (laws.chase.starts (made_query size) is))
    where
      by : ((trace : List Step) × (end : ConjunctiveQuery) × IsRun [] (start_of (made_query size)) trace end × IsEnd [] end)
          → (plan : Plan) × IsPlanOfRun [] (made_views size) (made_names size) (made_query size) plan
      by (trace, end, run, _) =
          let plan = stated_exists (made_names size) (made_views size) end views_are
          (head_stays laws.chase.heads [] (made_query size) no_rules laws.chase.starts is trace end run) in
          (plan.0, record { trace = trace; end = end; run = run; finished = λ rule inside. absurd (Contains-nil rule inside); stated = plan.1 })

  module _ (plan : Plan) (planned : IsPlanOfRun [] (made_views size) (made_names size) (made_query size) plan) where
    form : IsPlanFor (made_query size) (plan_query plan)
    form = plan_form (λ it. (bench.own it).maps) [] (made_views size) (made_query size) plan (laws.keeps.plans plan)
        (bench.receives [] (made_views size) (made_names size) (made_query size) plan no_rules is planned) (satisfied (made_query size))

    universal : IsUniversalPlan [] (made_views size) (made_query size) (plan_query plan)
    universal = bench.universal [] (made_views size) (made_names size) (made_query size) plan no_rules is planned

    fits : FitsViews (made_views size) (plan_query plan)
    fits atom inside =
        let of = plan_of (made_names size) (made_views size) planned.end plan planned.stated in
        let (row, (view, there, (m, keeps, sends, row_is)), same) = of.only_rows atom inside in
        let own = view_at row.relation view there in (
          view,
          ap (slice_get (made_views size)) (ap (λ (it : Fact Term). it.relation) (sym same)) ∙ there,
          record {
            same_length = sym (length-map view.head m) ∙ ap length (sym row_is) ∙ sym (length-map row.terms of.renaming)
                ∙ ap (λ (it : Fact Term). length it.terms) same;
            variables = λ term in_head. variable_of term (subst (λ (it : ConjunctiveQuery). Contains it.head term) (sym own.1) in_head);
            distinct = subst (λ (it : ConjunctiveQuery). AllPairs ◌≢◌ it.head) own.1 variables_apart;
          },
        )

    known : IsPlanKnown (made_views size) (plan_query plan)
    known = record { flat_body = form.flat_body; flat_head = λ term inside. named-flat plan term ((laws.keeps.plans plan).named_head term inside); fits = fits }

    sets_exist : (sets : List (List Bool)) × AreListed [] (made_views size) (made_patterns size) (made_query size) (plan_query plan) sets
    sets_exist =
        listed_sets_exist [] chases laws.lists.answers laws.lists.expansions (made_views size) views_are laws.lists.part laws.lists.part_is_one
        laws.lists.own_part (made_patterns size) (plan_query plan) known laws.lists.sets laws.lists.minimal laws.lists.contained laws.lists.equivalent
        (made_query size) is form universal

    summary_exists : (summary : Summary) × IsSummaryOfCase size summary
    summary_exists =
        let sets = sets_exist in
        let all = items_exist laws.lists.orders laws.lists.weights (made_patterns size) (made_weights size) (plan_query plan).body sets.0
        (λ set inside. ((sets.1.exact set).0 inside).0.executable) in
        let items = all.0 in
        let list : IsListOfCase size plan items = record {
          listed = subst (AreListed [] (made_views size) (made_patterns size) (made_query size) (plan_query plan)) (sym all.1.sets_are) sets.1;
          orders = all.1.orders;
          weighed = all.1.weighed;
        } in
        let pick = laws.lists.picks (totals_of items) (λ none. some_listed size plan items list some bench.stated bench.none form universal
        (no_items items none)) in
        let answers = database_answers (made_query size) is (made_database size) in
        let distinct = each_distinct (same_list decided_value) answers.0 in
        let summary : Summary = record {
          plan = length plan.atoms;
          rewritings = length items;
          weight = slice_index_or (totals_of items) pick.0 0;
          rows = length distinct.0;
        } in (
          summary,
          record {
            plan = plan;
            planned = planned;
            items = items;
            listed = list.listed;
            weighed = list.weighed;
            pick = pick.0;
            picked = pick.1;
            answers = distinct.0;
            exact = λ row. ((λ inside. (answers.1 row).0 ((distinct.2 row).0 inside)), (λ answer. (distinct.2 row).1 ((answers.1 row).1 answer)));
            once = distinct.1;
            told = refl;
          },
        )
      where
        no_items : (items : List Item) → totals_of items ≡ [] → items ≡ []
        no_items [] none = refl
        no_items (first ∷ rest) none = absurd (cc)

pub summaries_exist : BelowLaws → BenchLaws → (size : ℕ) → 0 < size → (summary : Summary) × IsSummaryOfCase size summary
summaries_exist laws bench size some =
    let plan = plan_exists laws bench size some in summary_exists laws bench size some plan.0 plan.1
