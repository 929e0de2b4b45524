use Rattle.std.proofs.Common.{refl, arith}
use Rattle.esto_semantics.proofs.SubstitutionLemmas.{spread_none, spread_more, spread_end}
use Rattle.esto_views.proofs.spread.push_inner.Goals as goal

pub inner-init : goal.inner-init
inner-init c = spread_none c.args.spread.now.from c.args.spread.now.to c.items-number-items.result.now c.args.spread.now.next

pub inner-preserved : goal.inner-preserved
inner-preserved c =
    spread_more _ _ _ _ c.inner.number-index _ _ _ _ _ _ _ c.inner-test.true refl c.in_ok-push_variable.ensures.from c.in_ok-push_variable.ensures.to
    c.in_ok-push_variable.ensures.next c.inner.invariant

pub returns : goal.returns
returns c =
    let (from, to, next) = spread_end c.args.spread.now.from c.args.spread.now.to c.items-number-items.result.now c.args.spread.now.next
    c.inner.number-index c.inner.spread.from c.inner.spread.to c.inner.spread.next c.inner-test.false (omega arith) c.inner.invariant in
    (c.items-number-items.result.now, rw c.items-number-items.ensures c.in_ok-inner.ensures, from, to, next)
