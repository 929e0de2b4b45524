use Rattle.esto_rewriting.proofs.planning.list_of.Goals as goal

pub minimal_sets-requires-clause-over : goal.minimal_sets-requires-clause-over
minimal_sets-requires-clause-over c =
    c.planned_plans_have_their_form.ensures.over c.args.catalogue.now c.args.query.now c.args.plan.now c.requires

pub minimal_sets-requires-clause-satisfiable : goal.minimal_sets-requires-clause-satisfiable
minimal_sets-requires-clause-satisfiable c =
    c.planned_plans_are_universal.ensures.satisfiable c.args.catalogue.now c.args.query.now c.args.plan.now c.requires

pub minimal_sets-requires-clause-universal : goal.minimal_sets-requires-clause-universal
minimal_sets-requires-clause-universal c =
    c.planned_plans_are_universal.ensures.universal c.args.catalogue.now c.args.query.now c.args.plan.now c.requires

pub minimal_sets-requires-clause-same_length : goal.minimal_sets-requires-clause-same_length
minimal_sets-requires-clause-same_length c =
    (c.planned_plans_have_their_form.ensures.form c.args.catalogue.now c.args.query.now c.args.plan.now c.requires).same_length

pub of-requires : goal.of-requires
of-requires c = λ set inside. ((c.in_ok-chased.ensures.listed set).0 inside).0.executable

pub returns-clause-list : goal.returns-clause-list
returns-clause-list c =
    let members = c.in_ok-listing.ensures.members in
    let listed = c.in_ok-chased.ensures.listed in
    record {
      sets = record {
        exact = λ set. (λ inside. (listed set).0 ((members set).0 inside), λ is_listed. (members set).1 ((listed set).1 is_listed));
        ordered = c.in_ok-listing.ensures.in_order;
      };
      orders = c.in_ok-listing.ensures.orders;
      weights = c.in_ok-listing.ensures.weights (c.printed_plans_are_over_fragments.ensures.distinct _ _ _ _ _ c.args.plan.now c.requires);
    }
