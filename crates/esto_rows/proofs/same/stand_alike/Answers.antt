use Rattle.std.proofs.Common.{◌≡◌, Some, slice_get, subst, arith}
use Rattle.esto_rows.proofs.SameLemmas.{one_list_more, one_list}
use Rattle.esto_rows.proofs.same.stand_alike.Goals as goal

pub rows-preserved : goal.rows-preserved
rows-preserved c = one_list_more c.args.one.now.rows c.args.other.now.rows c.rows.at c.read_row.new.codes c.in_ok-read_row.ensures
    (subst (λ it. slice_get c.args.other.now.rows c.rows.at ≡ Some it) c.items.ensures (c.is_at.ensures.0 c.if-not-is_at.false)) c.rows.invariant

pub returns : goal.returns
returns c = λ _. one_list c.args.one.now.rows c.args.other.now.rows c.rows.at
    (let past = c.rows-test.false in let count = c.len-at-end.ensures in omega (arith, past, count))
    c.requires c.rows.invariant
