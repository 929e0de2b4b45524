use Rattle.esto_top.proofs.UnionRunLemmas.{outcomes_are_union_runs}
use Rattle.esto_top.proofs.laws.union_runs_hold.Goals as goal

pub returns : goal.returns
returns c = outcomes_are_union_runs c.openings_hold.ensures c.union_runs_are_exact.ensures c.union_runs_are_moved.ensures
