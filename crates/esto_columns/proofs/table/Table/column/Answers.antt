use Rattle.std.proofs.Common.{◌≡◌, ◌<◌, map, get_or, sym, ap, subst}
use Rattle.esto_columns.specs.CodedRows.{CodedRows}
use Rattle.esto_columns.proofs.RowLemmas.{column_of}
use Rattle.esto_columns.proofs.table.Table.column.Goals as goal

pub returns : goal.returns
returns c = subst (λ (it : CodedRows). c.index.result.now ≡ map (λ row. get_or row c.args.column 0) it.rows) c.self.view_is
    (column_of c.self.inside.columns.items c.self.inside.count c.self.invariant c.args.column c.index.result.now
    (subst (λ it. c.args.column < it) (sym (ap (λ (it : CodedRows). it.arity) c.self.view_is)) c.requires) c.index.ensures)
