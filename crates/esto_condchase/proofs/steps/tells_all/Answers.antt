use Rattle.std.proofs.Common.{refl}
use Rattle.esto_condchase.proofs.StepLemmas.{told_all}
use Rattle.esto_condchase.proofs.steps.tells_all.Goals as goal

pub returns : goal.returns
returns c told = told_all c.args.level.now.places.now c.args.kept.now c.args.before.now.to c.items.result.now _ _ c.args.before.now.product c.items.ensures
    c.requires.lengths refl (c.has_later.ensures.old c.if-has_later.false) (c.covers.ensures told)
