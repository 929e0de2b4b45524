use Rattle.std.proofs.Common.{◌<◌, subst, arith}
use Rattle.esto_steps.proofs.IndexLemmas.{finds_none, finds_all}
use Rattle.esto_steps.proofs.index.index_of.Goals as goal

pub rows-init : goal.rows-init
rows-init c = finds_none c.args.columns.now c.in_ok-index.index c.in_ok-index.ensures

pub index_row-requires-clause-there : goal.index_row-requires-clause-there
index_row-requires-clause-there c = subst (λ it. c.rows.at < it) c.len-at-end.ensures c.rows-test.true

pub returns : goal.returns
returns c = finds_all c.args.columns.now c.args.rows.now.rows c.rows.at c.rows.index
    (let past = c.rows-test.false in let count = c.len-at-end.ensures in omega (arith, past, count)) c.rows.invariant
