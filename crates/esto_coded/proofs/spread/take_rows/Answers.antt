use Rattle.std.proofs.Common.{arith}
use Rattle.esto_coded.proofs.SpreadLemmas.{passing_none, passing_more, passing_all}
use Rattle.esto_coded.proofs.spread.take_rows.Goals as goal

pub rows-init : goal.rows-init
rows-init c = passing_none c.args.columns.now c.args.rows.now.rows c.args.set.now

pub rows-preserved : goal.rows-preserved
rows-preserved c = passing_more c.args.columns.now c.args.rows.now.rows c.rows.at c.args.set.now c.rows.set c.take_at.new.set c.rows.invariant
    c.in_ok-take_at.ensures

pub returns : goal.returns
returns c = passing_all c.args.columns.now c.args.rows.now.rows c.rows.at c.args.set.now c.rows.set
    (let past = c.rows-test.false in let count = c.len-at-end.ensures in omega (arith, past, count)) c.rows.invariant
