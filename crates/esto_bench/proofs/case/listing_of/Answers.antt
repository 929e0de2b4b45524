use Rattle.std.proofs.Common.{All, IfOk, Result, Ok, Err, subst}
use Rattle.esto_list.specs.declared.listing.Listed.{Listed}
use Rattle.esto_semantics.specs.Access.{IsStatedOrder}
use Rattle.esto_semantics.specs.Listed.{chosen, IsWeight}
use Rattle.esto_views.specs.Plans.{plan_query}
use Rattle.esto_constraint.specs.Constraints.{rules_of}
use Rattle.esto_query.specs.Making.{query_of}
use Rattle.esto_views.specs.Fragments.{views_of}
use Rattle.esto_views.proofs.FormLemmas.{plan_form}
use Rattle.esto_bench.proofs.PlanLemmas.{list_of_case, none_are_rules, planned_by}
use Rattle.esto_bench.proofs.case.listing_of.Goals as goal

pub minimal_sets-requires-clause-over : goal.minimal_sets-requires-clause-over
minimal_sets-requires-clause-over c =
    let catalogue = c.args.catalogue.now in
    c.plans_of_runs_are_over_fragments.ensures.over (rules_of catalogue.rules) catalogue.fragments c.args.query.now.names (query_of c.args.query.now)
    c.args.plan.now (c.catalogues_are_sound.ensures catalogue).fragments_are
    (planned_by c.args.size catalogue c.requires.catalogue c.args.query.now c.requires.query c.args.plan.now c.requires.planned)

pub minimal_sets-requires-clause-universal : goal.minimal_sets-requires-clause-universal
minimal_sets-requires-clause-universal c =
    let catalogue = c.args.catalogue.now in
    c.plans_of_runs_are_universal.ensures.universal (rules_of catalogue.rules) (views_of catalogue.fragments) c.args.query.now.names
    (query_of c.args.query.now) c.args.plan.now (none_are_rules catalogue c.requires.catalogue.rules) (c.queries_are_sound.ensures c.args.query.now).query
    (planned_by c.args.size catalogue c.requires.catalogue c.args.query.now c.requires.query c.args.plan.now c.requires.planned)

pub minimal_sets-requires-clause-satisfiable : goal.minimal_sets-requires-clause-satisfiable
minimal_sets-requires-clause-satisfiable c =
    let catalogue = c.args.catalogue.now in
    c.plans_tell_satisfiable_queries.ensures.plan (rules_of catalogue.rules) (views_of catalogue.fragments) c.args.query.now.names
    (query_of c.args.query.now) c.args.plan.now (none_are_rules catalogue c.requires.catalogue.rules) (c.queries_are_sound.ensures c.args.query.now).query
    (planned_by c.args.size catalogue c.requires.catalogue c.args.query.now c.requires.query c.args.plan.now c.requires.planned)

pub minimal_sets-requires-clause-same_length : goal.minimal_sets-requires-clause-same_length
minimal_sets-requires-clause-same_length c =
    let catalogue = c.args.catalogue.now in
    let planned = planned_by c.args.size catalogue c.requires.catalogue c.args.query.now c.requires.query c.args.plan.now c.requires.planned in
    let rules = none_are_rules catalogue c.requires.catalogue.rules in
    let is_query = (c.queries_are_sound.ensures c.args.query.now).query in
    let form = plan_form (λ it. (c.queries_are_their_own_instances.ensures.universal it).maps) (rules_of catalogue.rules) (views_of catalogue.fragments)
    (query_of c.args.query.now) c.args.plan.now (c.plans_are_sound.ensures c.args.plan.now)
    (c.plans_of_runs_are_universal.ensures.unions (rules_of catalogue.rules) (views_of catalogue.fragments) c.args.query.now.names
    (query_of c.args.query.now) c.args.plan.now rules is_query planned)
    (c.plans_tell_satisfiable_queries.ensures.plan (rules_of catalogue.rules) (views_of catalogue.fragments) c.args.query.now.names
    (query_of c.args.query.now) c.args.plan.now rules is_query planned) in
    form.same_length

pub of-requires : goal.of-requires
of-requires c = λ set inside. ((c.in_ok-found.ensures.listed set).0 inside).0.executable

-- what holds of a list of the sets holds of the list of the case
module _ {T E : Type 0} {Members Ordered Orders Weights List : T → Type 0} where
  listed : (result : Result T E) → ((list : T) → Members list → Ordered list → Orders list → Weights list → List list)
      → IfOk result Members → IfOk result Ordered → IfOk result Orders → IfOk result Weights
      → IfOk result List
  listed (Ok list) made members ordered orders weights = made list members ordered orders weights
  listed (Err error) made members ordered orders weights = tt

pub returns : goal.returns
returns c =
    let catalogue = c.args.catalogue.now in
    let made = c.requires.catalogue in
    let plan = c.args.plan.now in
    let apart = c.plans_of_runs_are_over_fragments.ensures.distinct (rules_of catalogue.rules) (views_of catalogue.fragments) c.args.query.now.names
    (query_of c.args.query.now) plan (planned_by c.args.size catalogue made c.args.query.now c.requires.query plan c.requires.planned) in
    listed c.of.result (λ listing members in_order orders weights. record {
      listed = list_of_case c.args.size catalogue made c.args.query.now c.requires.query plan c.in_ok-found.found.sets.sets c.in_ok-found.ensures.listed
          listing members in_order;
      orders = subst (λ patterns. All (λ (item : Listed). IsStatedOrder patterns (plan_query plan).body item.set item.order) listing) made.patterns orders;
      weighed = subst (λ weights. All (λ (item : Listed). IsWeight weights (chosen item.set (plan_query plan).body) item.weight) listing) made.weights
          weights;
    }) c.of.ensures.members c.of.ensures.in_order c.of.ensures.orders (c.of.ensures.weights apart)
