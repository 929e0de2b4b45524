use Rattle.std.proofs.Common.{length, sym, ◌∙◌, true-eqb, false-eqb}
use Rattle.std.proofs.lemmas.Result.{err_from_is_err_and}
use Rattle.esto_text.proofs.UnionReading.{union_start, union_error, union_ends, union_full, union_more}
use Rattle.esto_text.proofs.unions.put_queries.Goals as goal

pub queries-init : goal.queries-init
queries-init c = rw c.requires (union_start c.args.tokens.now)

pub returns-in_err-query-clause-err : goal.returns-in_err-query-clause-err
returns-in_err-query-clause-err c =
    let p = err_from_is_err_and c.from_residual.result c.from_residual.ensures.1 in
    rw (p.1, p.2) (union_error c.args.tokens.now c.queries.queries c.queries.rest.now c.queries.invariant _ c.in_err-query.ensures.err)

pub returns-then-is_empty-clause-ok : goal.returns-then-is_empty-clause-ok
returns-then-is_empty-clause-ok c =
    rw c.in_ok-push.ensures.ok
    (union_ends c.args.tokens.now c.queries.queries c.queries.rest.now c.queries.invariant c.in_ok-query.query c.in_ok-query.after.now c.in_ok-query.ensures.ok
    (true-eqb (length c.in_ok-query.after.now) 0 c.if-is_empty.ensures))

pub returns-then-len-eq-MAX_QUERIES-clause-err : goal.returns-then-len-eq-MAX_QUERIES-clause-err
returns-then-len-eq-MAX_QUERIES-clause-err c =
    union_full c.args.tokens.now c.queries.queries c.queries.rest.now c.queries.invariant c.in_ok-query.query c.in_ok-query.after.now c.in_ok-query.ensures.ok
    (false-eqb _ 0 c.if-is_empty.ensures) (sym (rw c.in_ok-push.ensures.ok at c.len.ensures) ∙ c.if-len-eq-MAX_QUERIES.true)

pub queries-preserved : goal.queries-preserved
queries-preserved c =
    rw (c.in_ok-push.ensures.ok, c.split_at.ensures.back)
    (union_more c.args.tokens.now c.queries.queries c.queries.rest.now c.queries.invariant c.in_ok-query.query c.in_ok-query.after.now c.in_ok-query.ensures.ok
    (false-eqb _ 0 c.if-is_empty.ensures) (λ full. c.if-len-eq-MAX_QUERIES.false (rw c.in_ok-push.ensures.ok at c.len.ensures ∙ full)))
