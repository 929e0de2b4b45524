use Rattle.std.proofs.Common.{map, sym, subst}
use Rattle.esto_columns.specs.Indexed.{IsIndexOf, key_at}
use Rattle.esto_columns.proofs.RowIndexLemmas.{index_more}
use Rattle.esto_columns.proofs.rows.Rows.index.Goals as goal

pub invariant_of-self : goal.invariant_of-self
invariant_of-self c = index_more c.push.result c.self.inside.table.rows c.self.inside.indexes c.push.new.self
    (record { columns = c.in_ok-columns.columns; index = c.in_ok-index.index }) c.self.invariant
    (subst (λ them. IsIndexOf c.in_ok-index.index (map (key_at them) c.self.inside.table.rows)) (sym c.in_ok-columns.ensures) c.in_ok-index.ensures)
    c.push.ensures.ok c.push.ensures.err
