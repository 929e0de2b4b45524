use Rattle.std.proofs.Common.{List, map, sym, ap, subst, ◌∙◌}
use Rattle.esto_columns.specs.declared.stored.StoredRows.{StoredRows}
use Rattle.esto_steps.specs.Rows.{IsRowOf, held_by}
use Rattle.esto_semantics.specs.Listed.{candidate}
use Rattle.esto_views.specs.Plans.{plan_query}
use Rattle.esto_run.specs.Coded.{AreCodesOfAll}
use Rattle.esto_run.specs.Laws.{IsAnswerOver}
use Rattle.esto_run.specs.Opened.{AreRowsFor, HaveTexts, Held, held_of, rows_held}
use Rattle.esto_run.proofs.run.answers_of_set.Goals as goal

pub coded_answers-requires-clause-texts : goal.coded_answers-requires-clause-texts
coded_answers-requires-clause-texts c =
    subst (λ (them : List StoredRows). HaveTexts c.into_parts-codes.result.0 them) (sym c.items.ensures) c.into_parts-codes.ensures.texts

pub coded_answers-requires-clause-rows : goal.coded_answers-requires-clause-rows
coded_answers-requires-clause-rows c =
    subst (λ (them : List Held). AreRowsFor c.args.fragments.now them)
    (sym (ap (map (held_of c.into_parts-codes.result.0)) c.items.ensures ∙ c.into_parts-codes.ensures.held)) c.requires.rows

pub returns : goal.returns
returns c = λ set is_order.
    subst (λ (them : List Held). AreCodesOfAll c.coded_answers.new.codes c.in_ok-rows.rows.rows
    (IsAnswerOver (IsRowOf (held_by (rows_held them))) (candidate (plan_query c.args.plan.now) set)))
    (ap (map (held_of c.into_parts-codes.result.0)) c.items.ensures ∙ c.into_parts-codes.ensures.held) (c.in_ok-rows.ensures.answers set is_order)
