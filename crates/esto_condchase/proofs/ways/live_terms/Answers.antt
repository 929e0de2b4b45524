use Rattle.std.proofs.Common.{◌++◌, ◌∙◌, ap}
use Rattle.std.proofs.lemmas.Result.{IfOk-weaker}
use Rattle.esto_condchase.proofs.ways.live_terms.Goals as goal

pub returns : goal.returns
returns c = IfOk-weaker c.both.result _ _ (λ it is. is ∙ ap (λ it. it ++ c.args.asked.now) (c.items.ensures ∙ c.in_ok-terms.ensures)) c.both.ensures
