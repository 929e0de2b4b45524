use Rattle.std.proofs.Common.{map, sym, ◌∙◌}
use Rattle.std.proofs.lemmas.Result.{IfOk-weaker}
use Rattle.esto_steps.specs.Planned.{ordered, atoms_of}
use Rattle.esto_steps.specs.Rows.{held_by}
use Rattle.esto_semantics.specs.Listed.{candidate}
use Rattle.esto_views.specs.Fragments.{patterns_of}
use Rattle.esto_views.specs.Plans.{plan_query}
use Rattle.esto_run.specs.Coded.{IsStoredRow}
use Rattle.esto_run.specs.Opened.{held_of, rows_held}
use Rattle.esto_run.proofs.RunLemmas.{shape_seen, codes_of, held_so, codes_have_texts, shapes, fits, answers_same, atoms_among, chosen_among, sources_long}
use Rattle.esto_run.proofs.RunnableLemmas.{plans_run}
use Rattle.esto_run.proofs.run.coded_answers.Goals as goal

pub run_plan-requires : goal.run_plan-requires
run_plan-requires c =
    let plan = plan_query c.args.plan.now in
    let fragments = c.args.fragments.now in
    let stored = c.args.stored.now in
    let texts = c.plan_of.new.codes in
    plans_run texts (patterns_of fragments) (ordered plan c.args.order.now) c.in_ok-steps.steps
    (map shape_seen stored) c.in_ok-steps.ensures.steps
    (shapes texts fragments (map (held_of c.args.codes.now) stored) stored c.requires.rows
    (held_so c.args.codes.now texts stored c.plan_of.ensures.grown c.requires.texts)
    c.args.plan.now c.requires.over (atoms_of plan.body c.args.order.now) (atoms_among plan.body c.args.order.now))

pub returns-clause-arity : goal.returns-clause-arity
returns-clause-arity c =
    let plan = plan_query c.args.plan.now in
    IfOk-weaker c.run_plan.result _ _ (λ rows long. long
    ∙ sym (sources_long c.plan_of.new.codes (patterns_of c.args.fragments.now) plan.head c.in_ok-steps.steps.head _ _
    c.in_ok-steps.steps.gets c.in_ok-steps.ensures.steps)) c.run_plan.ensures.arity

pub returns-clause-answers : goal.returns-clause-answers
returns-clause-answers c = IfOk-weaker c.run_plan.result _ _ (λ rows ran set is_order.
    let plan = plan_query c.args.plan.now in
    let fragments = c.args.fragments.now in
    let patterns = patterns_of fragments in
    let stored = c.args.stored.now in
    let opened = map (held_of c.args.codes.now) stored in
    let texts = c.plan_of.new.codes in
    let own = c.requires.order in
    let are = held_so c.args.codes.now texts stored c.plan_of.ensures.grown c.requires.texts in
    let Holds = IsStoredRow c.args.codes.now stored in
    let law = c.results_are_candidate_answers.ensures texts patterns plan c.args.order.now own c.in_ok-steps.steps
    (held_by (map codes_of stored)) (held_by (rows_held opened))
    c.len-count.ensures.distinct are.coded c.in_ok-steps.ensures.steps
    (fits texts fragments opened stored c.requires.rows are c.args.plan.now c.requires.over (candidate plan own.0).body
    (chosen_among c.chosen_atoms_are_named.ensures own.0 plan.body)) in record {
      below = λ row inside. c.results_have_texts.ensures texts patterns (ordered plan c.args.order.now) c.in_ok-steps.steps
          (held_by (map codes_of stored)) c.in_ok-steps.ensures.steps (codes_have_texts texts fragments opened stored c.requires.rows are)
          row ((ran row).0 inside);
      exact = λ row. (
        (λ (codes, inside, codes_are).
            answers_same c.chosen_atoms_are_named.ensures patterns plan set own.0 c.args.order.now is_order own.1 Holds row
            ((law row).0 (codes, (ran codes).0 inside, codes_are))),
        (λ answer. let found = (law row).1 (answers_same c.chosen_atoms_are_named.ensures patterns plan own.0 set c.args.order.now own.1 is_order
            Holds row answer) in
            (found.0, (ran found.0).1 found.1, found.2)),
      );
    }) c.run_plan.ensures.rows
