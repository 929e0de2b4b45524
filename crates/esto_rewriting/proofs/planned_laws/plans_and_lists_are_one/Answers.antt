use Rattle.esto_rewriting.proofs.PlanAlikeLemmas.{end_one, list_one, listing_one, plan_one}
use Rattle.esto_rewriting.proofs.ChoiceLemmas.{choice_one}
use Rattle.esto_rewriting.proofs.planned_laws.plans_and_lists_are_one.Goals as goal

pub returns-clause-end : goal.returns-clause-end
returns-clause-end c = end_one c.plan_laws_hold.ensures

pub returns-clause-plan : goal.returns-clause-plan
returns-clause-plan c = plan_one c.plan_laws_hold.ensures

pub returns-clause-list : goal.returns-clause-list
returns-clause-list c = list_one c.plan_laws_hold.ensures

pub returns-clause-text : goal.returns-clause-text
returns-clause-text c = listing_one c.plan_laws_hold.ensures

pub returns-clause-choice : goal.returns-clause-choice
returns-clause-choice c = choice_one c.picks_exist.ensures.one
