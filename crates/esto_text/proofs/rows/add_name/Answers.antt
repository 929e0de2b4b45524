use Rattle.std.proofs.Common.{◌∷◌, ◌≡◌, ◌-◌, suc, arith, length, ap, refl, ◌∙◌}
use Rattle.std.proofs.lemmas.Result.{IfErr-weaker, IfOk-weaker, err_from_is_err_and}
use Rattle.esto_text.proofs.HeadLemmas.{no_room_fails, head_name_fails, head_end_fails}
use Rattle.esto_text.proofs.rows.add_name.Goals as goal

pub returns-then-len-ge-MAX_NAMES-clause-err : goal.returns-then-len-ge-MAX_NAMES-clause-err
returns-then-len-ge-MAX_NAMES-clause-err c =
    let full : 32 - length c.args.names.now ≡ 0 = omega arith in
    rw full (no_room_fails c.args.tokens.now _ refl)

pub returns-in_err-name-clause-err : goal.returns-in_err-name-clause-err
returns-in_err-name-clause-err c =
    let p = err_from_is_err_and c.from_residual.result c.from_residual.ensures.1 in
    rw (p.1, p.2) (head_name_fails _ c.args.tokens.now _ c.in_err-name.ensures.err)

pub returns-in_err-push-clause-err : goal.returns-in_err-push-clause-err
returns-in_err-push-clause-err c =
    let p = err_from_is_err_and c.from_residual-in_err-push.result c.from_residual-in_err-push.ensures.1 in rw (p.1, p.2) (λ s. tt)

pub returns-clause-ok : goal.returns-clause-ok
returns-clause-ok c =
    IfOk-weaker c.separator.result _ _
    (λ x (sign, is, ends). (
      c.in_ok-name.name,
      sign,
      c.in_ok-name.ensures.ok.0 ∙ ap (λ it. c.in_ok-name.name ∷ it) is,
      c.in_ok-name.ensures.ok.1,
      ends,
      c.in_ok-push.ensures.ok,
      omega arith,
    )) c.separator.ensures.ok

pub returns-clause-err : goal.returns-clause-err
returns-clause-err c =
    let room : 32 - length c.args.names.now ≡ suc (31 - length c.args.names.now) = omega arith in
    IfErr-weaker c.separator.result _ _
    (λ e none. rw room (head_end_fails (31 - length c.args.names.now) c.args.tokens.now c.in_ok-name.rest.now c.in_ok-name.name e c.in_ok-name.ensures.ok none))
    c.separator.ensures.err
