use Rattle.std.proofs.Common.{subst, sym}
use Rattle.esto_constraint.specs.Constraints.{rules_of}
use Rattle.esto_query.specs.Making.{query_of}
use Rattle.esto_semantics.specs.Access.{IsOrder}
use Rattle.esto_views.specs.Plans.{plan_query}
use Rattle.esto_bench.specs.Made.{CountsAnswers}
use Rattle.esto_bench.proofs.PlanLemmas.{planned_by}
use Rattle.esto_bench.proofs.RunLemmas.{counted, rising_apart}
use Rattle.esto_bench.proofs.case.count_rows.Goals as goal

pub rows_of_set-requires-clause-over : goal.rows_of_set-requires-clause-over
rows_of_set-requires-clause-over c =
    let catalogue = c.args.catalogue.now in
    c.plans_of_runs_are_over_fragments.ensures.over (rules_of catalogue.rules) catalogue.fragments c.args.query.now.names (query_of c.args.query.now)
    c.args.plan.now (c.catalogues_are_sound.ensures catalogue).fragments_are
    (planned_by c.args.size catalogue c.requires.catalogue c.args.query.now c.requires.query c.args.plan.now c.requires.planned)

pub returns : goal.returns
returns c =
    let catalogue = c.args.catalogue.now in
    let made = c.requires.catalogue in
    let plan = c.args.plan.now in
    let item = c.args.item.now in
    let over = c.plans_of_runs_are_over_fragments.ensures.over (rules_of catalogue.rules) catalogue.fragments c.args.query.now.names
    (query_of c.args.query.now) plan (c.catalogues_are_sound.ensures catalogue).fragments_are
    (planned_by c.args.size catalogue made c.args.query.now c.requires.query plan c.requires.planned) in
    let order = subst (λ patterns. IsOrder patterns (plan_query plan).body item.set item.order) (sym made.patterns) c.requires.item.order.is_order in
    let rows = c.in_ok-rows.rows in
    subst (CountsAnswers c.args.size) (sym c.len.ensures)
    (counted c.answers_are_over_files.ensures c.rewritings_answer_queries.ensures c.chosen_atoms_are_named.ensures c.args.size catalogue made plan over item
    c.requires.item c.in_ok-opened.opened c.in_ok-opened.ensures rows (c.in_ok-rows.ensures.rows item.set order)
    (rising_apart rows c.in_ok-rows.ensures.rising))
