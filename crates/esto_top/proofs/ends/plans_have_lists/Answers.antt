use Rattle.esto_top.proofs.RunEndLemmas.{chooses_ends, listing_exists}
use Rattle.esto_top.proofs.ends.plans_have_lists.Goals as goal
use Rattle.esto_top.proofs.PlannedLemmas.{list_exists}

pub returns-clause-list : goal.returns-clause-list
returns-clause-list c = λ catalogue query plan planned.
    let laws = c.laws_below_hold.ensures in list_exists laws.keeps laws.chase catalogue laws.lists query plan planned

pub returns-clause-text : goal.returns-clause-text
returns-clause-text c = λ catalogue query plan planned. listing_exists c.laws_below_hold.ensures catalogue query plan planned

pub returns-clause-chosen : goal.returns-clause-chosen
returns-clause-chosen c = λ items number. chooses_ends c.laws_below_hold.ensures.lists.picks items number
