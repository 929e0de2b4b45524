use Rattle.std.proofs.Common.{[], ◌∷◌, ◌++◌, ◌∙◌, sym}
use Rattle.std.proofs.lemmas.List.{take_all}
use Rattle.esto_term.proofs.PlaceLemmas.{take-item}
use Rattle.esto_columns.proofs.table.copied.Goals as goal

pub columns-preserved : goal.columns-preserved
columns-preserved c =
    c.in-Ok.ensures.items ∙ (λ i. c.columns.invariant i ++ c.in_ok-copy.ensures i ∷ [])
    ∙ sym (take-item c.args.columns.now c.columns.column-index c.column-item.result c.columns-test.true c.column-item.is)

pub returns : goal.returns
returns c = c.columns.invariant ∙ take_all c.columns.column-index c.args.columns.now c.columns-test.false
