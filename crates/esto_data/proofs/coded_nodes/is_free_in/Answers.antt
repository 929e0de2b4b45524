use Rattle.std.proofs.Common.{Some, ap, ◌∙◌}
use Rattle.esto_term.proofs.PlaceLemmas.{read_at}
use Rattle.esto_data.proofs.coded_nodes.is_free_in.Goals as goal

pub returns-then-is_free_at : goal.returns-then-is_free_at
returns-then-is_free_at c _ =
    let free = c.is_free_at.ensures c.if-is_free_at.true in (
      c.terms.column,
      read_at c.args.atom.now.terms _ c.items-own-items.ensures c.terms.column c.own-item.result c.terms-test.true c.own-item.is ∙ ap Some free.0,
      free.1,
    )
