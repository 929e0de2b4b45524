use Rattle.std.proofs.Common.{[]}
use Rattle.std.proofs.lemmas.Result.{err_from_is_err_and}
use Rattle.esto_text.proofs.RowLemmas.{row_fails, goes_begun, goes_done}
use Rattle.esto_text.proofs.RuleLemmas.{AreRuleItems, body_part, item_fails, item_end_fails, item_more}
use Rattle.esto_text.proofs.rule.body.Goals as goal

pub returns-in_err-after-clause-err : goal.returns-in_err-after-clause-err
returns-in_err-after-clause-err c =
    let p = err_from_is_err_and c.from_residual.result c.from_residual.ensures.1 in
    rw (p.1, p.2) (row_fails AreRuleItems body_part c.args.tokens.now c.items.items c.items.rest.now c.items.more c.items-test.true c.items.invariant _
    (item_fails c.items.rest.now _ c.in_err-after.ensures.err))

pub returns-in_err-more-clause-err : goal.returns-in_err-more-clause-err
returns-in_err-more-clause-err c =
    let p = err_from_is_err_and c.from_residual-in_err-more.result c.from_residual-in_err-more.ensures.1 in
    rw (p.1, p.2) (row_fails AreRuleItems body_part c.args.tokens.now c.items.items c.items.rest.now c.items.more c.items-test.true c.items.invariant _
    (item_end_fails c.items.rest.now c.in_ok-after.after.now c.in_ok-after.ensures.ok.0 _ c.in_ok-after.ensures.ok.1 c.in_err-more.ensures.err))

pub items-preserved : goal.items-preserved
items-preserved c =
    rw c.in_ok-after.ensures.ok.2
    (item_more c.args.tokens.now c.items.items c.items.rest.now c.items.more c.items-test.true c.items.invariant c.in_ok-after.ensures.ok.0
    c.in_ok-after.after.now _ _ c.in_ok-after.ensures.ok.1 c.in_ok-more.ensures.ok)

pub returns-clause-ok : goal.returns-clause-ok
returns-clause-ok c = goes_done AreRuleItems body_part [] c.args.tokens.now c.items.items c.items.rest.now c.items.more c.items-test.false
    (c.items.invariant [])

pub items-init : goal.items-init
items-init c = rw c.new-items.ensures (λ s. goes_begun AreRuleItems _ s c.args.tokens.now)
