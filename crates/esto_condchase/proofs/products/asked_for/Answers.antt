use Rattle.std.proofs.Common.{subst, ◌∙◌}
use Rattle.std.proofs.lemmas.Result.{IfOk-weaker}
use Rattle.esto_known.specs.Told.{Tell}
use Rattle.esto_condchase.proofs.products.asked_for.Goals as goal

pub returns : goal.returns
returns c = IfOk-weaker c.telling.result _ _ (λ these tell. subst (λ it. Tell c.args.from.now it these) (c.items.ensures ∙ c.in_ok-terms.ensures) tell)
    c.telling.ensures
