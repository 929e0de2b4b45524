use Rattle.std.proofs.Common.{arith}
use Rattle.esto_rows.proofs.WantedLemmas.{wanted_none, wanted_more, wanted_all}
use Rattle.esto_rows.proofs.wanted.put_wanted.Goals as goal

pub rows-init : goal.rows-init
rows-init c = wanted_none c.args.wanted.now c.args.rows.now.rows c.args.set.now

pub rows-preserved : goal.rows-preserved
rows-preserved c = wanted_more c.args.wanted.now c.args.rows.now.rows c.rows.at c.rows.set c.put_at.new.set c.rows.invariant c.in_ok-put_at.ensures

pub returns : goal.returns
returns c = wanted_all c.args.wanted.now c.args.rows.now.rows c.rows.at c.rows.set
    (let past = c.rows-test.false in let count = c.len-at-end.ensures in omega (arith, past, count)) c.rows.invariant
