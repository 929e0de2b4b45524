use Rattle.std.proofs.Common.{rules}
use Rattle.esto_term.specs.Order.{term_cmp}
use Rattle.esto_term.proofs.OrderLemmas.{term_cmp_total}
use Rattle.esto_term.proofs.TotalOrderLemmas.{in_order-sorted}
use Rattle.esto_table.proofs.number.put_in_order.Goals as goal

pub returns-in-Ok : goal.returns-in-Ok
returns-in-Ok c = in_order-sorted term_cmp term_cmp_total c.sort_by.new.self.items c.in-Ok.ensures.sorted (λ a r f' k. search rules)
