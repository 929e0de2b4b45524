use Rattle.esto_top.proofs.UnionLemmas.{outcomes_are_union_lists}
use Rattle.esto_top.proofs.laws.union_lists_hold.Goals as goal

pub returns : goal.returns
returns c = outcomes_are_union_lists c.openings_hold.ensures c.union_lists_are_exact.ensures c.union_lists_are_moved.ensures.lists
