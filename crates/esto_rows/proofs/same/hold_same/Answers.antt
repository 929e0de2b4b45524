use Rattle.esto_rows.proofs.SameLemmas.{is_so, one_list_same}
use Rattle.esto_rows.proofs.same.hold_same.Goals as goal

pub returns-then-branch : goal.returns-then-branch
returns-then-branch c = is_so (one_list_same c.args.one.now.rows c.args.other.now.rows (c.in_ok-are_one_list.ensures c.if-branch.true))
