use Rattle.esto_rewriting.proofs.OneLemmas.{members_one}
use Rattle.esto_rewriting.proofs.union_laws.members_are_one.Goals as goal

pub returns : goal.returns
returns c =
    members_one c.plans_and_lists_are_one.ensures.end c.executable_unions_map_onto_sets.ensures.one c.items_and_texts_are_one.ensures.items
