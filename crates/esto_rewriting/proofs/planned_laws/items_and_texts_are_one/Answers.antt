use Rattle.esto_rewriting.proofs.OneListLemmas.{items_same, text_moved, text_same}
use Rattle.esto_rewriting.proofs.planned_laws.items_and_texts_are_one.Goals as goal

pub returns-clause-items : goal.returns-clause-items
returns-clause-items c = items_same c.stated_orders_exist.ensures.one c.weights_exist.ensures.one

pub returns-clause-text : goal.returns-clause-text
returns-clause-text c = text_same c.picks_exist.ensures.one

pub returns-clause-moved : goal.returns-clause-moved
returns-clause-moved c = text_moved
