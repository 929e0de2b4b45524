use Rattle.esto_rewriting.proofs.ChoiceLemmas.{item_listed, place_within}
use Rattle.esto_rewriting.proofs.planned_laws.chosen_items_are_listed.Goals as goal

pub returns-clause-item : goal.returns-clause-item
returns-clause-item c = item_listed

pub returns-clause-place : goal.returns-clause-place
returns-clause-place c = place_within
