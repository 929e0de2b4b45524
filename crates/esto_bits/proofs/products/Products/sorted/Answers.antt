use Rattle.std.proofs.Common.{◌↔◌, ◌∙◌, ◌++◌, Contains, ap, rules, subst, sym}
use Rattle.std.specs.List.Sorted.{IsPermutation}
use Rattle.esto_term.specs.Sets.{AreInOrder}
use Rattle.esto_bits.proofs.SortLemmas.{in_order_from_sort_by, sorted_members}
use Rattle.esto_bits.proofs.products.Products.sorted.Goals as goal

moved : (c : goal.After-from_vec) → IsPermutation c.args.self.now.sets c.sort_by.new.self.items
moved c =
    subst (λ sets. IsPermutation sets c.sort_by.new.self.items)
    (c.in_ok-put_copies.ensures ∙ ap (λ before. before ++ c.args.self.now.sets) c.new-sets.ensures.items) c.in_ok-sort_by.ensures.permutation

pub returns-clause-members : goal.returns-clause-members
returns-clause-members c set =
    subst (λ sorted. Contains sorted set ↔ Contains c.args.self.now.sets set) (sym c.from_vec.ensures)
    (sorted_members c.args.self.now.count c.args.self.now.sets c.sort_by.new.self.items c.products_are_antichains.ensures.over
    c.products_are_antichains.ensures.antichain (moved c) set)

pub returns-clause-in_order : goal.returns-clause-in_order
returns-clause-in_order c =
    subst AreInOrder (sym c.from_vec.ensures)
    (in_order_from_sort_by c.args.self.now.count c.args.self.now.sets c.sort_by.new.self.items c.products_are_antichains.ensures.over
    c.products_are_antichains.ensures.antichain (moved c) c.in_ok-sort_by.ensures.sorted (λ a r f' k. search rules))
