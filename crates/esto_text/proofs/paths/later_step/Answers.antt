use Rattle.std.proofs.Common.{sym}
use Rattle.std.proofs.lemmas.Result.{err_from_is_err_and}
use Rattle.esto_text.proofs.PathLemmas.{some_next, brackets_taken, later_brackets, later_next, dot_fails}
use Rattle.esto_text.specs.declared.token.TokenKind.TheVariants.{LeftBracket, Dot}
use Rattle.esto_text.proofs.paths.later_step.Goals as goal

pub returns-in_err-step-in-Dot-clause-err : goal.returns-in_err-step-in-Dot-clause-err
returns-in_err-step-in-Dot-clause-err c =
    let p = err_from_is_err_and c.from_residual-in_err-step-in-Dot.result c.from_residual-in_err-step-in-Dot.ensures.1 in
    rw (p.1, p.2) (dot_fails c.args.tokens.now _ (sym c.in-Dot.ensures) (rw c.split_at-in-Dot.ensures.back at c.in_err-step-in-Dot.ensures.err))

pub returns-in_ok-rest-in-LeftBracket-clause-ok : goal.returns-in_ok-rest-in-LeftBracket-clause-ok
returns-in_ok-rest-in-LeftBracket-clause-ok c =
    later_brackets _ _ (brackets_taken c.args.tokens.now c.in_ok-rest-in-LeftBracket.rest.now _ (sym c.in-LeftBracket.ensures)
    (rw c.split_at.ensures.back at c.in_ok-rest-in-LeftBracket.ensures.ok))

pub returns-in_ok-step-in-Dot-clause-ok : goal.returns-in_ok-step-in-Dot-clause-ok
returns-in_ok-step-in-Dot-clause-ok c =
    later_next c.args.tokens.now c.in_ok-step-in-Dot.rest.now c.in_ok-step-in-Dot.step (sym c.in-Dot.ensures)
    (rw c.split_at-in-Dot.ensures.back at c.in_ok-step-in-Dot.ensures.ok)

pub split_at-requires : goal.split_at-requires
split_at-requires c = some_next c.args.tokens.now LeftBracket (sym c.in-LeftBracket.ensures) (λ z. cc)

pub split_at-requires-in-Dot : goal.split_at-requires-in-Dot
split_at-requires-in-Dot c = some_next c.args.tokens.now Dot (sym c.in-Dot.ensures) (λ z. cc)
