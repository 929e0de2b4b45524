use Rattle.std.proofs.Common.{◌++◌, ◌∷◌, [], ◌∙◌, sym}
use Rattle.std.proofs.lemmas.List.{take_all}
use Rattle.esto_term.proofs.PlaceLemmas.{take-item}
use Rattle.esto_term.proofs.list.ListReplicate.copy.Goals as goal

pub items-preserved : goal.items-preserved
items-preserved g c =
    c.in_ok-push.ensures.ok ∙ (λ i. c.items.invariant i ++ c.in_ok-copy.ensures i ∷ [])
    ∙ sym (take-item _ _ c.item-item.result c.items-test.true c.item-item.is)

pub returns : goal.returns
returns g c = c.items.invariant ∙ take_all c.items.item-index _ c.items-test.false ∙ c.items-item-items.ensures
