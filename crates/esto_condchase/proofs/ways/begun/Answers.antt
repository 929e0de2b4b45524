use Rattle.std.proofs.Common.{◌∷◌, [], ◌∙◌}
use Rattle.std.proofs.lemmas.Result.{IfOk-weaker}
use Rattle.esto_condchase.proofs.ways.begun.Goals as goal

pub returns : goal.returns
returns c = IfOk-weaker c.only.result _ _ (λ ways is. is ∙ (λ i. (record {
  to = c.new-2.ensures i;
  facts = c.new-3.ensures i;
  links = c.new-4.ensures i;
  product = c.in_ok-product.ensures i;
}) ∷ [])) c.only.ensures
