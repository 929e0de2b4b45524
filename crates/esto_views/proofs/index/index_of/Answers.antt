use Rattle.std.proofs.Common.{rules}
use Rattle.esto_term.proofs.TotalOrderLemmas.{in_order-sorted}
use Rattle.esto_views.proofs.IndexLemmas.{entries_moved, entry_cmp_total}
use Rattle.esto_views.proofs.index.index_of.Goals as goal
use Rattle.esto_views.specs.Indexes.{entry_cmp}

pub returns : goal.returns
returns c = record {
  entries = entries_moved c.args.terms.now c.in_ok-entries.entries.items c.sort_by.new.self.items c.in_ok-entries.ensures c.in_ok-sort_by.ensures.permutation;
  in_order = in_order-sorted entry_cmp entry_cmp_total c.sort_by.new.self.items c.in_ok-sort_by.ensures.sorted (λ a r f' k. search rules);
}
