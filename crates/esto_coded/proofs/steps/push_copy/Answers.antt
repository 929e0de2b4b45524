use Rattle.std.proofs.Common.{[], ◌∷◌, ◌++◌, ap, ◌∙◌}
use Rattle.std.proofs.lemmas.Result.{on_ok_weaker}
use Rattle.esto_coded.proofs.steps.push_copy.Goals as goal

pub returns : goal.returns
returns c = on_ok_weaker c.push.result (λ grown. grown ∙ ap (λ it. c.args.terms.now ++ it ∷ []) c.in_ok-own.ensures) c.push.ensures.ok
