use Rattle.std.proofs.Common.{◌∙◌}
use Rattle.std.proofs.Common.{List, Bool, Result, Ok, Err}
use Rattle.std.specs.Prelude.{◌↔◌, Contains, IfOk}
use Rattle.esto_mapping.specs.declared.catalogue.Catalogue.{Catalogue}
use Rattle.esto_list.specs.Items.{HaveOrders, HaveWeights, sets_of}
use Rattle.esto_list.specs.declared.listing.Listed.{Listed}
use Rattle.esto_query.specs.declared.query.Query.{Query}
use Rattle.esto_term.specs.Sets.{AreInOrder}
use Rattle.esto_union.specs.Unions.{IsListedIn}
use Rattle.esto_views.specs.declared.plan.Plan.{Plan}
use Rattle.esto_rewriting.specs.Members.{IsListIn}
use Rattle.esto_rewriting.proofs.members.listing_in.Goals as goal

-- the list of the sets is the plan's in the union
module _ (catalogue : Catalogue) (queries : List Query) (plan : Plan) (sets : List (List Bool)) where
  list_in : {E : Type 0} (result : Result (List Listed) E) → ((set : List Bool) → Contains sets set ↔ IsListedIn catalogue queries plan set)
      → IfOk result (λ items. (set : List Bool) → Contains (sets_of items) set ↔ Contains sets set) → IfOk result (λ items. AreInOrder (sets_of items))
      → IfOk result (HaveOrders plan catalogue.fragments)
      → IfOk result (HaveWeights plan catalogue.fragments)
      → IfOk result (IsListIn catalogue queries plan)
  list_in (Err error) listed members in_order orders weights = tt
  list_in (Ok items) listed members in_order orders weights = record {
    sets = record {
      exact = λ set. (λ there. (listed set).0 ((members set).0 there), λ is_listed. (members set).1 ((listed set).1 is_listed));
      ordered = in_order;
    };
    orders = orders;
    weights = weights;
  }

pub union_sets-requires-clause-over : goal.union_sets-requires-clause-over
union_sets-requires-clause-over c =
    let (query, inside, planned) = c.requires.planned in
    c.planned_plans_have_their_form.ensures.over c.args.catalogue.now query c.args.plan.now planned

pub union_sets-requires-clause-same_lengths : goal.union_sets-requires-clause-same_lengths
union_sets-requires-clause-same_lengths c other there =
    let (query, inside, planned) = c.requires.planned in
    (c.planned_plans_have_their_form.ensures.form c.args.catalogue.now query c.args.plan.now planned).same_length
    ∙ c.requires.union.lengths query other inside there

pub union_sets-requires-clause-plan_of_one : goal.union_sets-requires-clause-plan_of_one
union_sets-requires-clause-plan_of_one c =
    let (query, inside, planned) = c.requires.planned in (
      query,
      inside,
      record {
        satisfiable = c.planned_plans_are_universal.ensures.satisfiable c.args.catalogue.now query c.args.plan.now planned;
        receives = c.planned_plans_are_universal.ensures.unions c.args.catalogue.now query c.args.plan.now planned;
      },
    )

pub of-requires : goal.of-requires
of-requires c = λ set inside. ((c.in_ok-sets.ensures.listed set).0 inside).0.executable

pub returns : goal.returns
returns c =
    let (query, inside, planned) = c.requires.planned in
    list_in c.args.catalogue.now c.args.queries.now c.args.plan.now c.in_ok-sets.sets.sets c.of.result c.in_ok-sets.ensures.listed c.of.ensures.members
    c.of.ensures.in_order c.of.ensures.orders
    (c.of.ensures.weights (c.printed_plans_are_over_fragments.ensures.distinct _ _ _ _ _ c.args.plan.now planned))
