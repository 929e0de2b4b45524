use Rattle.std.proofs.Common.{take, ap, sym, ◌∙◌}
use Rattle.esto_columns.proofs.RowLemmas.{cut_turn}
use Rattle.esto_columns.proofs.table.cut.Goals as goal

pub columns-preserved : goal.columns-preserved
columns-preserved c =
    cut_turn c.args.count c.columns.column-index c.deref_mut-column-items.result.now c.columns.column-items c.column-item.result c.truncate.new.self
    c.columns.invariant
    c.columns-test.true c.column-item.is (c.truncate.ensures ∙ ap (take c.args.count) (sym c.column-item.is))
