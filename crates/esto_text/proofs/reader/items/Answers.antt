use Rattle.std.proofs.Common.{length, true-eqb, false-eqb}
use Rattle.std.proofs.lemmas.Result.{err_from_is_err_and}
use Rattle.esto_text.proofs.ItemLemmas.{items_done, items_fail, items_comma_fail, items_more}
use Rattle.esto_text.proofs.reader.items.Goals as goal

pub returns-in_err-after-clause-err : goal.returns-in_err-after-clause-err
returns-in_err-after-clause-err c =
    let p = err_from_is_err_and c.from_residual.result c.from_residual.ensures.1 in
    rw (p.1, p.2) (items_fail c.args.tokens.now c.items.items c.items.rest.now c.items.invariant _ c.in_err-after.ensures.err)

pub returns-in_err-rest-clause-err : goal.returns-in_err-rest-clause-err
returns-in_err-rest-clause-err c =
    let p = err_from_is_err_and c.from_residual-in_err-rest.result c.from_residual-in_err-rest.ensures.1 in
    rw (p.1, p.2) (items_comma_fail c.args.tokens.now c.items.items c.items.rest.now c.items.invariant _ c.in_ok-after.ensures.ok.0 c.in_ok-after.after.now
    c.in_ok-after.ensures.ok.1 (false-eqb _ 0 c.if-is_empty.ensures) c.in_err-rest.ensures.err)

pub items-preserved : goal.items-preserved
items-preserved c =
    rw c.in_ok-after.ensures.ok.2
    (items_more c.args.tokens.now c.items.items c.items.rest.now c.items.invariant c.in_ok-after.ensures.ok.0 c.in_ok-after.after.now _ _
    c.in_ok-after.ensures.ok.1 c.in_ok-rest.ensures.ok)

pub returns-then-is_empty-clause-ok : goal.returns-then-is_empty-clause-ok
returns-then-is_empty-clause-ok c =
    rw c.in_ok-after.ensures.ok.2
    (items_done c.args.tokens.now c.items.items c.items.rest.now c.items.invariant c.in_ok-after.ensures.ok.0 c.in_ok-after.after.now
    c.in_ok-after.ensures.ok.1 (true-eqb (length c.in_ok-after.after.now) 0 c.if-is_empty.ensures))
