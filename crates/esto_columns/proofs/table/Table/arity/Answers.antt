use Rattle.std.proofs.Common.{subst}
use Rattle.esto_columns.specs.CodedRows.{CodedRows}
use Rattle.esto_columns.specs.Columns.{HaveLength}
use Rattle.esto_columns.proofs.RowLemmas.{rows_fit}
use Rattle.esto_columns.proofs.table.Table.arity.Goals as goal

pub returns-clause-fits : goal.returns-clause-fits
returns-clause-fits c = subst (λ (it : CodedRows). HaveLength it.arity it.rows) c.self.view_is (rows_fit c.self.inside.columns.items c.self.inside.count)
