use Rattle.std.proofs.Common.{[], ◌∷◌, ◌++◌, ◌≡◌, ◌-◌, suc, arith, length, ap, refl}
use Rattle.std.proofs.lemmas.List.{length-append}
use Rattle.std.proofs.lemmas.Result.{err_from_is_err_and}
use Rattle.esto_text.specs.Grammar.{IsName, IsRow}
use Rattle.esto_text.specs.Limits.{limited_row}
use Rattle.esto_text.proofs.RowLemmas.{goes_begun}
use Rattle.esto_text.proofs.HeadLemmas.{head_fails, head_next, head_done}
use Rattle.esto_text.proofs.rows.names.Goals as goal

pub returns-in_err-more-clause-err : goal.returns-in_err-more-clause-err
returns-in_err-more-clause-err c =
    let p = err_from_is_err_and c.from_residual.result c.from_residual.ensures.1 in
    rw (p.1, p.2) (head_fails _ _ _ c.names.rest.now c.names.more c.names.invariant c.names-test.true _ c.in_err-more.ensures.err)

pub names-preserved : goal.names-preserved
names-preserved c =
    let (name, sign, whole, is_name, ends, grown, below) = c.in_ok-more.ensures.ok in
    let room : 32 - length c.names.names ≡ suc (31 - length c.names.names) = omega (arith, below) in
    let left : 32 - length (c.names.names ++ name ∷ []) ≡ 31 - length c.names.names = omega (arith, length-append c.names.names (name ∷ [])) in
    rw (grown, left)
    (head_next _ _ _ c.names.rest.now c.names.more c.names.invariant c.names-test.true (31 - length c.names.names) room name (sign ∷ _) _ _ (whole, is_name)
    (sign, refl, ends))

pub returns-clause-ok : goal.returns-clause-ok
returns-clause-ok c = head_done _ _ _ c.names.rest.now c.names.more c.names.invariant c.names-test.false

pub names-init : goal.names-init
names-init c = rw c.new-names.ensures (λ s. goes_begun (IsRow IsName) _ s (limited_row 32 c.args.tokens.now))

pub names-smaller : goal.names-smaller
names-smaller c = omega (arith, ap length c.in_ok-more.ensures.ok.2)
