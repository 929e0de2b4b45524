use Rattle.std.proofs.Common.{◌++◌, ◌∙◌, ap}
use Rattle.esto_condchase.specs.declared.passing.Support.{Support}
use Rattle.esto_condchase.proofs.steps.extended.Goals as goal

pub returns : goal.returns
returns c = λ i. record {
  to = (c.in_ok-to.ensures ∙ ap (λ it. it ++ c.args.step.now.owns.now) c.requires) i;
  facts = c.in_ok-facts.ensures i;
  links = ap (λ (it : Support). it.links) c.in_ok-links.ensures i;
  product = ap (λ (it : Support). it.product) c.in_ok-links.ensures i;
}
