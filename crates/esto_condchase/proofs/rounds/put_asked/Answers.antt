use Rattle.std.proofs.Common.{◌++◌, ◌∷◌, [], ◌∙◌}
use Rattle.std.proofs.lemmas.Result.{on_ok_weaker}
use Rattle.esto_chase_laws.specs.declared.entry.Reason.TheVariants.{Step}
use Rattle.esto_condchase.proofs.rounds.put_asked.Goals as goal

pub returns : goal.returns
returns c = on_ok_weaker c.push.result
    (λ is. is ∙ (λ i. c.args.more.now ++ (record {
      claim = c.args.claim;
      product = c.in_ok-product.ensures.0 i;
      reason = Step c.args.number (c.in_ok-product.ensures.1 i);
    }) ∷ [])) c.push.ensures.ok
