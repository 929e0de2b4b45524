use Rattle.esto_rewriting.proofs.PlanMovedLemmas.{clash_moved, list_moved, listing_moved, planned_moved}
use Rattle.esto_rewriting.proofs.planned_laws.plans_and_lists_are_moved.Goals as goal

pub returns-clause-plan : goal.returns-clause-plan
returns-clause-plan c = λ catalogue other query other_query plan alike same. planned_moved catalogue other alike query other_query same plan

pub returns-clause-clash : goal.returns-clause-clash
returns-clause-clash c = λ catalogue other query other_query clash alike same. clash_moved catalogue other alike query other_query same clash

pub returns-clause-list : goal.returns-clause-list
returns-clause-list c = λ catalogue other query other_query plan items alike same. list_moved catalogue other alike query other_query same plan items

pub returns-clause-text : goal.returns-clause-text
returns-clause-text c = λ catalogue other query other_query plan text alike same. listing_moved catalogue other alike query other_query same plan text
