use Rattle.std.proofs.Common.{subst}
use Rattle.std.specs.Result.{IfOk}
use Rattle.esto_steps.specs.Indexed.{FindsRows}
use Rattle.esto_steps.proofs.join.index_by.Goals as goal

pub returns : goal.returns
returns c = subst (λ columns. IfOk c.index_of.result (FindsRows c.args.rows.now.rows columns)) c.in_ok-columns.ensures c.index_of.ensures
