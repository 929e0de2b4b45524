use Rattle.std.proofs.Common.{◌∙◌}
use Rattle.std.proofs.lemmas.Result.{IfOk-weaker}
use Rattle.esto_steps.specs.Rows.{IsRowOf, held_by}
use Rattle.esto_semantics.specs.Listed.{candidate}
use Rattle.esto_views.specs.Plans.{plan_query}
use Rattle.esto_run.specs.Opened.{rows_held}
use Rattle.esto_run.proofs.RowsTextLemmas.{same_rows}
use Rattle.esto_run.proofs.RunLemmas.{answers_long}
use Rattle.esto_run.proofs.run.run_text.Goals as goal

pub coded_answers_text-requires-clause-below : goal.coded_answers_text-requires-clause-below
coded_answers_text-requires-clause-below c = let order = c.requires.order in (c.in_ok-answers.ensures order.0 order.1).below

pub coded_answers_text-requires-clause-wide : goal.coded_answers_text-requires-clause-wide
coded_answers_text-requires-clause-wide c = λ row coded.
    let order = c.requires.order in
    answers_long (IsRowOf (held_by (rows_held c.args.opened))) (candidate (plan_query c.args.plan.now) order.0) row
    (((c.in_ok-answers.ensures order.0 order.1).exact row).0 coded)
    ∙ c.requires.same_length

pub returns : goal.returns
returns c = IfOk-weaker c.coded_answers_text.result _ _
    (λ text shown set is_order. same_rows c.args.query.now _ _ text (c.in_ok-answers.ensures set is_order).exact shown) c.coded_answers_text.ensures
