use Rattle.std.proofs.Common.{sym, ◌∙◌}
use Rattle.std.proofs.lemmas.Bool.{false≢true}
use Rattle.esto_fill.proofs.NodeLemmas.{not_false}
use Rattle.esto_data.proofs.coded_nodes.is_free_at.Goals as goal

pub returns : goal.returns
returns c told = (
  c.equal.ensures.0 c.if-not-equal.false,
  λ row inside has. false≢true (sym (not_false c.has_node.result told) ∙ c.has_node.ensures.1 (row, inside, has)),
)
