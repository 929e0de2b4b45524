use Rattle.std.proofs.Common.{◌∷◌}
use Rattle.std.proofs.lemmas.Result.{err_from_is_err_and}
use Rattle.esto_text.specs.Machine.{AName, AParen, MoreNames, after_head}
use Rattle.esto_text.proofs.ItemLemmas.{name_fails_at, paren_fails, variables_fail, turnstile_fails, body_fails, query_is}
use Rattle.esto_text.specs.Limits.{limited, limited_row}
use Rattle.esto_text.proofs.HeadLemmas.{limited_name, limited_paren, limited_not_name, limited_not_paren}
use Rattle.esto_text.proofs.reader.query.Goals as goal

pub returns-in_err-name-clause-err : goal.returns-in_err-name-clause-err
returns-in_err-name-clause-err c =
    let p = err_from_is_err_and c.from_residual.result c.from_residual.ensures.1 in
    rw (p.1, p.2) (name_fails_at (AParen ∷ AName ∷ MoreNames ∷ after_head) (limited c.args.tokens.now) _ (limited_not_name _ _ c.in_err-name.ensures.err))

pub returns-in_err-rest-clause-err : goal.returns-in_err-rest-clause-err
returns-in_err-rest-clause-err c =
    let p = err_from_is_err_and c.from_residual-in_err-rest.result c.from_residual-in_err-rest.ensures.1 in
    rw (p.1, p.2) (paren_fails (limited c.args.tokens.now) (limited_row 32 c.in_ok-name.rest.now) c.in_ok-name.name (limited_name _ _ _ c.in_ok-name.ensures.ok)
    _ (limited_not_paren _ _ c.in_err-rest.ensures.err))

pub returns-in_err-variables-clause-err : goal.returns-in_err-variables-clause-err
returns-in_err-variables-clause-err c =
    let p = err_from_is_err_and c.from_residual-in_err-variables.result c.from_residual-in_err-variables.ensures.1 in
    rw (p.1, p.2) (variables_fail (limited c.args.tokens.now) (limited_row 32 c.in_ok-name.rest.now) c.in_ok-name.name
    (limited_name _ _ _ c.in_ok-name.ensures.ok) _ (limited_row 32 c.in_ok-rest.rest.now) (limited_paren _ _ _ c.in_ok-rest.ensures.ok) _
    c.in_err-variables.ensures.err)

pub returns-in_err-rest-2-clause-err : goal.returns-in_err-rest-2-clause-err
returns-in_err-rest-2-clause-err c =
    let p = err_from_is_err_and c.from_residual-in_err-rest-2.result c.from_residual-in_err-rest-2.ensures.1 in
    rw (p.1, p.2) (turnstile_fails (limited c.args.tokens.now) (limited_row 32 c.in_ok-name.rest.now) c.in_ok-name.name
    (limited_name _ _ _ c.in_ok-name.ensures.ok) _ (limited_row 32 c.in_ok-rest.rest.now) (limited_paren _ _ _ c.in_ok-rest.ensures.ok)
    c.in_ok-variables.variables c.in_ok-variables.rest.now c.in_ok-variables.ensures.ok _ c.in_err-rest-2.ensures.err)

pub returns-in_err-items-clause-err : goal.returns-in_err-items-clause-err
returns-in_err-items-clause-err c =
    let p = err_from_is_err_and c.from_residual-in_err-items.result c.from_residual-in_err-items.ensures.1 in
    rw (p.1, p.2) (body_fails (limited c.args.tokens.now) (limited_row 32 c.in_ok-name.rest.now) c.in_ok-name.name (limited_name _ _ _ c.in_ok-name.ensures.ok)
    _ (limited_row 32 c.in_ok-rest.rest.now) (limited_paren _ _ _ c.in_ok-rest.ensures.ok)
    c.in_ok-variables.variables c.in_ok-variables.rest.now c.in_ok-variables.ensures.ok _ c.in_ok-rest-2.rest.now c.in_ok-rest-2.ensures.ok _
    c.in_err-items.ensures.err)

pub returns-clause-ok : goal.returns-clause-ok
returns-clause-ok c =
    query_is (limited c.args.tokens.now) (limited_row 32 c.in_ok-name.rest.now) c.in_ok-name.name (limited_name _ _ _ c.in_ok-name.ensures.ok) _
    (limited_row 32 c.in_ok-rest.rest.now) (limited_paren _ _ _ c.in_ok-rest.ensures.ok)
    c.in_ok-variables.variables c.in_ok-variables.rest.now c.in_ok-variables.ensures.ok _ c.in_ok-rest-2.rest.now c.in_ok-rest-2.ensures.ok _
    c.in_ok-items.ensures.ok
