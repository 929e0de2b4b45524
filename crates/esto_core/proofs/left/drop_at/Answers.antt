use Rattle.std.proofs.Common.{ap, ◌∙◌}
use Rattle.esto_core.specs.Left.{without}
use Rattle.esto_core.proofs.LeftLemmas.{first-flat, dropped-there, dropped-not}
use Rattle.esto_core.proofs.left.drop_at.Goals as goal

pub retracts-requires-clause-flat : goal.retracts-requires-clause-flat
retracts-requires-clause-flat c =
    first-flat c.args.left.now c.args.place c.item.result.now c.item.ensures c.requires.there c.in_ok-others.others
    (c.in_ok-others.ensures ∙ ap (without c.args.place) c.items.ensures) c.requires.flat

pub returns-then-branch : goal.returns-then-branch
returns-then-branch c =
    dropped-there c.args.left.now c.args.place c.item.result.now c.item.ensures c.requires.there c.args.head.now c.in_ok-others.others
    (c.in_ok-others.ensures ∙ ap (without c.args.place) c.items.ensures) (c.in_ok-retracts.ensures.0 c.if-branch.true)

pub returns-else-branch : goal.returns-else-branch
returns-else-branch c =
    dropped-not c.args.left.now c.args.place c.item.result.now c.item.ensures c.requires.there c.args.head.now c.in_ok-others.others
    (c.in_ok-others.ensures ∙ ap (without c.args.place) c.items.ensures) c.in_ok-retracts.field-0 c.in_ok-retracts.ensures c.if-branch.false
