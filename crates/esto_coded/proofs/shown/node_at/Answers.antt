use Rattle.std.proofs.Common.{◌<◌, subst}
use Rattle.esto_coded.proofs.ShownLemmas.{node_told}
use Rattle.esto_coded.proofs.shown.node_at.Goals as goal

pub returns : goal.returns
returns c = node_told c.args.rows.now.rows c.args.rows.now.arity c.args.column c.arity.ensures.fits c.column.result.now c.any_node.result
    (subst (λ count. c.args.column < count) c.arity.ensures.value c.if-column-arity.false) c.column.ensures c.any_node.ensures
