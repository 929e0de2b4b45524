use Rattle.std.proofs.Common.{length, sym, ap, ◌∙◌}
use Rattle.esto_columns.specs.CodedRows.{CodedRows}
use Rattle.esto_columns.proofs.RowLemmas.{length-rows_of}
use Rattle.esto_columns.proofs.table.Table.len.Goals as goal

pub returns : goal.returns
returns c = sym (length-rows_of c.self.inside.columns.items c.self.inside.count) ∙ ap (λ (it : CodedRows). length it.rows) c.self.view_is
