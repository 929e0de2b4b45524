use Rattle.std.proofs.Common.{◌++◌, ◌∷◌, [], ◌+◌, ◌∙◌, sym, subst}
use Rattle.esto_term.proofs.PlaceLemmas.{take-item}
use Rattle.esto_docmodel.specs.Names.{Rise}
use Rattle.esto_docmodel.proofs.RisingLemmas.{rise_taken}
use Rattle.esto_docmodel.proofs.tree.+copy.Goals as goal

pub copied_fields-push-requires : goal.copied_fields-push-requires
copied_fields-push-requires t c =
    let more =
    (λ i. c.fields.invariant i ++ (record { name = c.in_ok-name.ensures i; tree = c.in_ok-tree.ensures i }) ∷ [])
    ∙ sym (take-item _ _ c.field-item.result c.fields-test.true c.field-item.is) in
    subst (λ fields. Rise fields) (sym more) (rise_taken (c.fields.field-index + 1) c.items-field-items.result.now c.items-field-items.ensures.rise)
