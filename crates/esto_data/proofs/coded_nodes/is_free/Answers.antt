use Rattle.std.proofs.Common.{inl, inr}
use Rattle.esto_term.proofs.ListLemmas.{Contains-read}
use Rattle.esto_data.proofs.coded_nodes.is_free.Goals as goal

pub returns-then-is_constant : goal.returns-then-is_constant
returns-then-is_constant c _ = inl (c.is_constant.ensures.0 c.if-is_constant.true)

pub returns-then-is_free_in : goal.returns-then-is_free_in
returns-then-is_free_in c _ = inr (
  c.atom-item.result,
  Contains-read c.args.body.now c.atoms.atom-index c.atom-item.result c.atoms-test.true c.atom-item.is,
  c.is_free_in.ensures c.if-is_free_in.true,
)
