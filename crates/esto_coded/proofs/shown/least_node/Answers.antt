use Rattle.std.proofs.Common.{sym, ◌∙◌, arith}
use Rattle.std.proofs.lemmas.Bool.{false≢true}
use Rattle.esto_coded.proofs.ShownLemmas.{none_more, is_least, node_within}
use Rattle.esto_coded.proofs.shown.least_node.Goals as goal

pub returns-then-node_at : goal.returns-then-node_at
returns-then-node_at c = (c.node_at.ensures.0 c.if-node_at.true, is_least c.args.rows.now.rows c.columns.column c.columns.invariant)

pub columns-preserved : goal.columns-preserved
columns-preserved c = none_more c.args.rows.now.rows c.columns.column
    (λ node. false≢true (sym c.if-node_at.false ∙ c.node_at.ensures.1 node)) c.columns.invariant

pub returns : goal.returns
returns c row column inside node = c.columns.invariant row column inside
    (let within = node_within c.args.rows.now.rows c.args.rows.now.arity column c.arity-column-end.ensures.fits (row, inside, node) in
    let past = c.columns-test.false in let value = c.arity-column-end.ensures.value in omega (arith, within, past, value)) node
