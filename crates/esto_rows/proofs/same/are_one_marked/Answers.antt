use Rattle.esto_rows.proofs.SameLemmas.{marked_none}
use Rattle.esto_rows.proofs.same.are_one_marked.Goals as goal

pub are_one_by-requires-clause-none : goal.are_one_by-requires-clause-none
are_one_by-requires-clause-none c = marked_none c.args.one.now.rows c.in_ok-marks.marks c.in_ok-marks.ensures.none
