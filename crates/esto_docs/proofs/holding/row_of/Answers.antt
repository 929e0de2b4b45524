use Rattle.std.proofs.Common.{ap, ◌∙◌}
use Rattle.std.proofs.lemmas.List.{take_all}
use Rattle.esto_docs.specs.Filling.{cells_of}
use Rattle.esto_docs.proofs.FillingTurns.{cells_more}
use Rattle.esto_docs.proofs.holding.row_of.Goals as goal

pub values-preserved : goal.values-preserved
values-preserved c =
    cells_more c.args.values.now c.values.value-index c.value-item.result c.values.row c.push.new.self c.in_ok-text.text c.values-test.true
    c.value-item.is c.values.invariant c.in_ok-text.ensures c.in_ok-push.ensures.ok

pub returns : goal.returns
returns c = c.values.invariant ∙ ap cells_of (take_all c.values.value-index c.args.values.now c.values-test.false)
