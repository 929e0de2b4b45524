use Rattle.std.proofs.Common.{◌∷◌, ap, ◌∙◌}
use Rattle.std.proofs.lemmas.Result.{IfErr-weaker, IfOk-weaker, err_from_is_err_and}
use Rattle.esto_text.proofs.RowLemmas.{term_fails, term_end_fails}
use Rattle.esto_text.proofs.rows.add_term.Goals as goal

pub returns-in_err-term-clause-err : goal.returns-in_err-term-clause-err
returns-in_err-term-clause-err c =
    let p = err_from_is_err_and c.from_residual.result c.from_residual.ensures.1 in
    rw (p.1, p.2) (term_fails c.args.tokens.now _ c.in_err-term.ensures.err)

pub returns-in_err-push-clause-err : goal.returns-in_err-push-clause-err
returns-in_err-push-clause-err c =
    let p = err_from_is_err_and c.from_residual-in_err-push.result c.from_residual-in_err-push.ensures.1 in rw (p.1, p.2) (λ s. tt)

pub returns-clause-ok : goal.returns-clause-ok
returns-clause-ok c =
    IfOk-weaker c.separator.result _ _
    (λ x (sign, is, ends). (
      c.in_ok-term.term,
      sign,
      c.in_ok-term.ensures.ok.0 ∙ ap (λ it. c.in_ok-term.term ∷ it) is,
      c.in_ok-term.ensures.ok.1,
      ends,
      c.in_ok-push.ensures.ok,
    )) c.separator.ensures.ok

pub returns-clause-err : goal.returns-clause-err
returns-clause-err c =
    IfErr-weaker c.separator.result _ _ (λ e none. term_end_fails c.args.tokens.now c.in_ok-term.rest.now c.in_ok-term.term e c.in_ok-term.ensures.ok none)
    c.separator.ensures.err
