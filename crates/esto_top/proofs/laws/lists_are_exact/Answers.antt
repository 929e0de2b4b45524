use Rattle.esto_top.proofs.HeadlineLemmas.{outcomes_are_lists, outcomes_are_refusals}
use Rattle.esto_top.proofs.laws.lists_are_exact.Goals as goal

pub returns-clause-lists : goal.returns-clause-lists
returns-clause-lists c = outcomes_are_lists c.openings_hold.ensures c.listings_hold.ensures

pub returns-clause-refusals : goal.returns-clause-refusals
returns-clause-refusals c = outcomes_are_refusals c.openings_hold.ensures c.listings_hold.ensures
