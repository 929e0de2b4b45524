use Rattle.std.proofs.Common.{◌↔◌, ◌∙◌, Contains, sym, subst}
use Rattle.esto_term.specs.Sets.{AreInOrder}
use Rattle.esto_list.proofs.listing.Listing.of.Goals as goal

pub items_of-requires : goal.items_of-requires
items_of-requires c set inside =
    c.requires set ((c.in_ok-sorted.ensures.members set).0 (subst (λ sets. Contains sets set) c.items.ensures inside))

pub returns-clause-members : goal.returns-clause-members
returns-clause-members c = λ set. subst (λ sets. Contains sets set ↔ Contains c.args.sets.now.sets set)
    (sym (c.in_ok-items.ensures.sets ∙ c.items.ensures)) (c.in_ok-sorted.ensures.members set)

pub returns-clause-in_order : goal.returns-clause-in_order
returns-clause-in_order c = subst AreInOrder (sym (c.in_ok-items.ensures.sets ∙ c.items.ensures)) c.in_ok-sorted.ensures.in_order
