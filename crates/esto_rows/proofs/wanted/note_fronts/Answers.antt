use Rattle.std.proofs.Common.{arith}
use Rattle.esto_rows.proofs.WantedLemmas.{fronts_all}
use Rattle.esto_rows.proofs.wanted.note_fronts.Goals as goal

pub returns : goal.returns
returns c = fronts_all c.args.rows.now.rows c.rows.at c.args.width c.rows.keys
    (let past = c.rows-test.false in let count = c.len-at-end.ensures in omega (arith, past, count)) c.rows.invariant.1
