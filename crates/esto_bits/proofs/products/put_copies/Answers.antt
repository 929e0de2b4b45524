use Rattle.std.proofs.Common.{◌∙◌, ◌++◌, ◌∷◌, [], ap, append-nil, append_assoc, arith, sym, take}
use Rattle.std.proofs.lemmas.List.{take_all}
use Rattle.esto_term.proofs.PlaceLemmas.{take-there}
use Rattle.esto_bits.proofs.products.put_copies.Goals as goal

pub sets-init : goal.sets-init
sets-init c = sym (append-nil c.args.copies.now.items)

pub sets-preserved : goal.sets-preserved
sets-preserved c =
    let before = c.args.copies.now.items in
    c.in_ok-push.ensures ∙ ap (λ them. them ++ c.in_ok-set.set ∷ []) c.sets.invariant
    ∙ append_assoc before (take c.sets.at c.args.products.now.sets) (c.in_ok-set.set ∷ [])
    ∙ ap (λ them. before ++ them) (sym (take-there c.args.products.now.sets c.sets.at c.in_ok-set.set c.in_ok-set.ensures))

pub returns : goal.returns
returns c =
    c.sets.invariant ∙ ap (λ them. c.args.copies.now.items ++ them)
    (take_all c.sets.at c.args.products.now.sets (omega (arith, c.sets-test.false, c.len-at-end.ensures)))
