-- A query over a catalogue has a printed plan, or its run clashes; a printed plan has its list.
use Rattle.std.proofs.Common.{◌≡◌, ◌⊎◌, inl, inr, ℕ, Bool, true, false, List, length, Some, slice_get, slice_index, refl, sym, subst, arith}
use Rattle.esto_mapping.specs.Soundness.{IsSoundCatalogue}
use Rattle.esto_mapping.specs.declared.catalogue.Catalogue.{Catalogue}
use Rattle.esto_constraint.proofs.RankLemmas.{depth_of, depth-small, ranks-RanksRise, ranks-small, rules-AreRules}
use Rattle.esto_chase_laws.specs.Runs.{Step, IsEnd, IsRun, start_of}
use Rattle.esto_chase_laws.specs.declared.clash.Clash.{Clash}
use Rattle.esto_constraint.specs.Constraints.{rules_of}
use Rattle.esto_rewriting.specs.Printed.{IsPrintedOf}
use Rattle.esto_list.specs.declared.listing.Listed.{Listed}
use Rattle.esto_rewriting.specs.Listing.{IsClash, IsListOf, IsPlanned}
use Rattle.esto_query.specs.Making.{query_of}
use Rattle.esto_query.specs.declared.query.Query.{Query}
use Rattle.esto_semantics.specs.Listed.{AreListed}
use Rattle.esto_semantics.specs.Queries.{ConjunctiveQuery, IsQuery}
use Rattle.esto_semantics.specs.Rules.{Rule, AreRules}
use Rattle.esto_term.specs.Sets.{AreListedBy}
use Rattle.esto_rewriting.specs.Members.{IsListIn}
use Rattle.esto_union.specs.Unions.{IsRewritingIn, queries_of}
use Rattle.esto_term.proofs.ListLemmas.{Contains-map_from, map_at-from}
use Rattle.esto_universal.proofs.PlannedLemmas.{head_stays}
use Rattle.esto_views.specs.Fragments.{patterns_of, views_of, weights_of}
use Rattle.esto_views.specs.Plans.{plan_query}
use Rattle.esto_views.specs.declared.fragments.FragmentDef.{FragmentDef}
use Rattle.esto_views.specs.declared.plan.Plan.{Plan}
use Rattle.esto_views.proofs.FlatLemmas.{named-flat}
use Rattle.esto_rewriting.proofs.CertifiedLemmas.{rules_within, rules_ranked}
use Rattle.esto_top.specs.LawsBelow.{KeptLaws, ChaseLaws, ListLaws}
use Rattle.esto_top.proofs.ListLemmas.{items_exist}
use Rattle.esto_top.proofs.PlanLemmas.{cored_exists, stated_exists}
use Rattle.esto_top.proofs.RewritingLemmas.{Chases, IsPlanKnown, listed_sets_exist, union_sets_exist, RunsEnd}

module _ (keeps : KeptLaws) (chase : ChaseLaws) (catalogue : Catalogue) where
  sound : IsSoundCatalogue catalogue.schema catalogue.words catalogue.datasets catalogue.fragments catalogue.stores catalogue.rules catalogue.given
      catalogue.ranks
  sound = keeps.catalogues catalogue

  abbrev rules : List Rule
  rules = rules_of catalogue.rules

  abbrev views : List ConjunctiveQuery
  views = views_of catalogue.fragments

  pub are_rules : AreRules rules
  are_rules = rules-AreRules catalogue.rules keeps.rules

  pub views_are : (number : ℕ) (view : ConjunctiveQuery) → slice_get views number ≡ Some view → IsQuery view
  views_are number view at =
      let source = map_at-from (λ (it : FragmentDef). query_of it.view) catalogue.fragments number view at in
      subst IsQuery source.2 (keeps.queries source.0.view).query

  ends : RunsEnd rules
  ends start is =
      chase.ends rules start (slice_index catalogue.ranks) (depth_of catalogue.ranks) are_rules is
      (ranks-RanksRise rules catalogue.ranks
      (chase.rise rules (length catalogue.ranks) catalogue.ranks (rules_within keeps.catalogues catalogue) (rules_ranked keeps.catalogues catalogue)))
      (ranks-small catalogue.ranks
      (chase.small rules (length catalogue.ranks) catalogue.ranks (rules_within keeps.catalogues catalogue) (rules_ranked keeps.catalogues catalogue)))
      (depth-small catalogue.ranks (length catalogue.ranks) refl (omega (arith, sound.schema_is.room, sound.ranks_are.for_each)))

  pub chases : Chases rules
  chases = record { are_rules = are_rules; ends = ends; universal = chase.universal; nothing = chase.nothing; begin = chase.body }

  -- ---- the plan of a query

  pub printed_of : (core : Bool) (plan : Plan) → (printed : Plan) × IsPrintedOf core plan printed
  printed_of false plan = (plan, refl)
  printed_of true plan = cored_exists plan (keeps.plans plan)

  -- a query has a printed plan, or its run clashes
  pub end_exists : (query : Query) → ((plan : Plan) × IsPlanned catalogue query plan) ⊎ ((clash : Clash) × IsClash catalogue query clash)
  end_exists query = by (ends (start_of (query_of query)) (chase.starts (query_of query) is))
    where
      is : IsQuery (query_of query)
      is = (keeps.queries query).query

      by : ((trace : List Step) × (end : ConjunctiveQuery) × IsRun rules (start_of (query_of query)) trace end × IsEnd rules end)
          → ((plan : Plan) × IsPlanned catalogue query plan) ⊎ ((clash : Clash) × IsClash catalogue query clash)
      by (trace, end, run, inl finished) =
          let stated = stated_exists query.names views end views_are
          (head_stays chase.heads rules (query_of query) are_rules chase.starts is trace end run) in
          let printed = printed_of catalogue.core stated.0 in
          inl (
            printed.0,
            record {
              stated = stated.0;
              of_run = record { trace = trace; end = end; run = run; finished = finished; stated = stated.1 };
              printed = printed.1;
            },
          )
      by (trace, end, run, inr (clash, clashed)) = inr (clash, (trace, end, run, clashed))

  -- ---- its list

  module _ (lists : ListLaws) (query : Query) (plan : Plan) (planned : IsPlanned catalogue query plan) where
    plan_known : IsPlanKnown views (plan_query plan)
    plan_known = record {
      flat_body = (lists.form catalogue query plan planned).flat_body;
      flat_head = λ term inside. named-flat plan term ((keeps.plans plan).named_head term inside);
      fits = keeps.fit plan catalogue.fragments (lists.over catalogue query plan planned);
    }

    pub list_exists : (items : List Listed) × IsListOf catalogue query plan items
    list_exists =
        let sets = listed_sets_exist rules chases lists.answers lists.expansions views views_are lists.part lists.part_is_one lists.own_part
        (patterns_of catalogue.fragments) (plan_query plan) plan_known lists.sets lists.minimal lists.contained lists.equivalent (query_of query)
        (keeps.queries query).query (lists.form catalogue query plan planned) (lists.universal catalogue query plan planned) in
        let items = items_exist lists.orders lists.weights (patterns_of catalogue.fragments) (weights_of catalogue.fragments) (plan_query plan).body sets.0
        (λ set inside. ((sets.1.exact set).0 inside).0.executable) in (
          items.0,
          record {
            sets = subst (AreListed rules views (patterns_of catalogue.fragments) (query_of query) (plan_query plan)) (sym items.1.sets_are) sets.1;
            orders = items.1.orders;
            weights = items.1.weighed;
          },
        )

    -- its list in a union
    pub list_in_exists : (queries : List Query) → (items : List Listed) × IsListIn catalogue queries plan items
    list_in_exists queries =
        let sets = union_sets_exist rules chases lists.answers lists.expansions views views_are lists.part lists.part_is_one lists.own_part
        (patterns_of catalogue.fragments) (plan_query plan) plan_known lists.sets lists.minimal lists.contained_in_union (queries_of queries)
        (λ other inside. let from = Contains-map_from query_of queries other inside in subst IsQuery from.2 (keeps.queries from.0).query) in
        let items = items_exist lists.orders lists.weights (patterns_of catalogue.fragments) (weights_of catalogue.fragments) (plan_query plan).body sets.0
        (λ set inside. ((sets.1.exact set).0 inside).0.executable) in (
          items.0,
          record {
            sets = subst (AreListedBy (IsRewritingIn catalogue queries plan)) (sym items.1.sets_are) sets.1;
            orders = items.1.orders;
            weights = items.1.weighed;
          },
        )
