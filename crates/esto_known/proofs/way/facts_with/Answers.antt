use Rattle.std.proofs.Common.{◌++◌, ◌∷◌, [], ap, ◌∙◌}
use Rattle.std.proofs.lemmas.Result.{on_ok_weaker}
use Rattle.esto_known.proofs.DoneLemmas.{handed_on}
use Rattle.esto_known.proofs.way.facts_with.Goals as goal

pub returns : goal.returns
returns c = handed_on c.push.result _ c.and.result c.and.ensures _
    (on_ok_weaker c.push.result (λ is. is ∙ ap (λ them. them ++ c.args.place ∷ []) c.in_ok-facts.ensures) c.push.ensures.ok)
