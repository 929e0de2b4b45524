use Rattle.std.proofs.Common.{rules}
use Rattle.esto_term.proofs.TotalOrderLemmas.{in_order-sorted}
use Rattle.esto_instance.proofs.FreshLemmas.{entries_of_all}
use Rattle.esto_instance.proofs.fresh.index_of.Goals as goal
use Rattle.esto_instance.proofs.OrderLemmas.{entry_cmp_total}
use Rattle.esto_instance.specs.Fresh.{entry_cmp}

pub returns-clause-entries : goal.returns-clause-entries
returns-clause-entries c =
    entries_of_all c.args.facts.now c.args.more.now c.add_old.new.entries.items c.add_new.new.entries.items c.sort_by.new.self.items
    (rw c.new-entries.ensures.items at c.in_ok-add_old.ensures) c.in_ok-add_new.ensures c.in_ok-sort_by.ensures.permutation

pub returns-clause-in_order : goal.returns-clause-in_order
returns-clause-in_order c = in_order-sorted entry_cmp entry_cmp_total c.sort_by.new.self.items c.in_ok-sort_by.ensures.sorted (λ a r f' k. search rules)
