use Rattle.std.proofs.Common.{length, sym, ◌∙◌}
use Rattle.std.proofs.lemmas.Result.{IfOk-weaker}
use Rattle.esto_steps.specs.Rows.{IsRowOf, held_by}
use Rattle.esto_run.specs.Opened.{rows_held}
use Rattle.esto_run.proofs.RowsTextLemmas.{same_rows}
use Rattle.esto_run.proofs.UnionLemmas.{one_long}
use Rattle.esto_run.proofs.unions.text_of_picks.Goals as goal

pub answers_of_opened-requires-clause-arity : goal.answers_of_opened-requires-clause-arity
answers_of_opened-requires-clause-arity c = λ pick inside. c.requires.same_length pick inside ∙ sym c.len.ensures

pub coded_answers_text-requires-clause-below : goal.coded_answers_text-requires-clause-below
coded_answers_text-requires-clause-below c = c.in_ok-answers.ensures.below

pub coded_answers_text-requires-clause-wide : goal.coded_answers_text-requires-clause-wide
coded_answers_text-requires-clause-wide c = λ row coded.
    one_long (IsRowOf (held_by (rows_held c.args.opened))) c.args.picks.now (length c.args.query.now.head) c.requires.same_length row
    ((c.in_ok-answers.ensures.exact row).0 coded)

pub returns : goal.returns
returns c = IfOk-weaker c.coded_answers_text.result _ _
    (λ text shown. same_rows c.args.query.now _ _ text c.in_ok-answers.ensures.exact shown) c.coded_answers_text.ensures
