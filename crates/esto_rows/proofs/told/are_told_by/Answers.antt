use Rattle.std.proofs.Common.{arith}
use Rattle.esto_rows.proofs.SameLemmas.{is_so}
use Rattle.esto_rows.proofs.ToldLemmas.{told_all}
use Rattle.esto_rows.proofs.told.are_told_by.Goals as goal

pub returns : goal.returns
returns c = is_so (told_all c.args.rows.now.rows c.rows.at
    (let past = c.rows-test.false in let end = c.len-at-end.ensures in omega (arith, past, end)) c.rows.invariant.1)
