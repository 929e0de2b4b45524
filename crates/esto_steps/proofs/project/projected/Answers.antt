use Rattle.std.proofs.Common.{ap, sym, ◌∙◌}
use Rattle.std.proofs.lemmas.Bool.{false≢true}
use Rattle.std.proofs.lemmas.Result.{IfOk-weaker}
use Rattle.esto_columns.specs.CodedRows.{CodedRows}
use Rattle.esto_steps.specs.Meaning.{code_at}
use Rattle.esto_steps.specs.Paired.{code_or_zero}
use Rattle.esto_steps.proofs.GatherLemmas.{columns_fit}
use Rattle.esto_steps.proofs.RowLemmas.{head_early, head_rows, head_none}
use Rattle.esto_steps.proofs.project.projected.Goals as goal

pub returns-then-not-are_within-clause-rows : goal.returns-then-not-are_within-clause-rows
returns-then-not-are_within-clause-rows c = IfOk-weaker c.new.result _ _
    (λ made is. head_none c.args.head.now c.args.rows.now c.arity.result c.arity.ensures.value c.arity.ensures.fits
    (λ within. false≢true (sym c.if-not-are_within.true ∙ c.are_within.ensures.1 within)) made.rows (ap (λ (it : CodedRows). it.rows) is))
    c.new.ensures

pub head_columns-requires : goal.head_columns-requires
head_columns-requires c = head_early c.args.head.now c.args.rows.now c.arity.result c.arity.ensures.value c.arity.ensures.fits
    (c.are_within.ensures.0 c.if-not-are_within.false)

pub of_columns-requires : goal.of_columns-requires
of_columns-requires c = columns_fit (λ source row. code_or_zero (code_at row source)) c.args.head.now c.args.rows.now.rows
    c.into_vec.result.items c.len-2.result (c.into_vec.ensures ∙ c.in_ok-columns.ensures) c.len-2.ensures

pub returns-clause-rows : goal.returns-clause-rows
returns-clause-rows c = head_rows c.args.head.now c.args.rows.now c.arity.result c.arity.ensures.value c.arity.ensures.fits
    (c.are_within.ensures.0 c.if-not-are_within.false) c.into_vec.result.items c.of_columns.result.rows c.len-2.result
    (c.into_vec.ensures ∙ c.in_ok-columns.ensures) c.len-2.ensures (ap (λ (it : CodedRows). it.rows) c.of_columns.ensures)
