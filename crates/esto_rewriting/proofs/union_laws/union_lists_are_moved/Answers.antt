use Rattle.esto_rewriting.proofs.UnionMovedLemmas.{lists_moved, members_moved}
use Rattle.esto_rewriting.proofs.union_laws.union_lists_are_moved.Goals as goal

pub returns-clause-members : goal.returns-clause-members
returns-clause-members c = members_moved c.plans_and_lists_are_moved.ensures.plan c.plans_and_lists_are_moved.ensures.clash

pub returns-clause-lists : goal.returns-clause-lists
returns-clause-lists c =
    lists_moved c.plans_and_lists_are_moved.ensures.plan c.plans_and_lists_are_moved.ensures.clash c.items_and_texts_are_one.ensures.moved
