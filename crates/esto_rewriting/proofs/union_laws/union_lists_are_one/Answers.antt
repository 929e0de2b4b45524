use Rattle.esto_rewriting.proofs.OneLemmas.{lists_one}
use Rattle.esto_rewriting.proofs.union_laws.union_lists_are_one.Goals as goal

pub returns : goal.returns
returns c = lists_one c.items_and_texts_are_one.ensures.text c.members_are_one.ensures
