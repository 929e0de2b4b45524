use Rattle.esto_fill.specs.Placing.{IsImageOf}
use Rattle.esto_fill.proofs.LawLemmas.{texts_no_node}
use Rattle.esto_fill.proofs.rows.constant_texts.Goals as goal

pub unreachable-requires : goal.unreachable-requires
unreachable-requires c =
    texts_no_node (IsImageOf c.args.rows.now) c.in-Err-NodeInRow.field-0-0 c.requires.texts
    (rw c.in-Err-NodeInRow.field-0-is at (rw c.in-Err-NodeInRow.is at c.texts_of.ensures))
