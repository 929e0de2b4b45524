use Rattle.std.proofs.Common.{sym, ◌∙◌}
use Rattle.esto_fill.proofs.NodeLemmas.{none_among, not_false}
use Rattle.esto_fill.proofs.nodes.is_free_at.Goals as goal

pub returns : goal.returns
returns c told = (
  c.equal.ensures.0 c.if-not-equal.false,
  none_among c.args.relation c.args.column c.args.columns.now (sym c.is_among.ensures ∙ not_false c.is_among.result told),
)
