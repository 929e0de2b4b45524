use Rattle.std.proofs.Common.{◌++◌, ◌∙◌}
use Rattle.std.proofs.lemmas.Result.{IfOk-weaker}
use Rattle.esto_derive.proofs.certificate.head_and_body.Goals as goal

pub returns : goal.returns
returns c =
    IfOk-weaker c.both.result _ _ (λ all is. is ∙ (λ i. c.items.ensures i ++ (c.items-2.ensures ∙ c.in_ok-terms.ensures) i)) c.both.ensures
