use Rattle.std.proofs.Common.{[], ◌∷◌, ◌++◌, take, sym, ap, ◌∙◌}
use Rattle.std.proofs.lemmas.List.{append_assoc, take_all}
use Rattle.esto_term.proofs.PlaceLemmas.{take-item}
use Rattle.esto_coded.proofs.meets.put_atoms.Goals as goal

pub atoms-preserved : goal.atoms-preserved
atoms-preserved c = c.in_ok-push.ensures.ok ∙ (λ i. c.atoms.invariant i ++ c.in_ok-own.ensures i ∷ [])
    ∙ append_assoc c.args.into.now (take c.atoms.atom-index c.args.atoms.now) (c.atom-item.result ∷ [])
    ∙ ap (λ them. c.args.into.now ++ them) (sym (take-item c.args.atoms.now c.atoms.atom-index c.atom-item.result c.atoms-test.true c.atom-item.is))

pub returns : goal.returns
returns c = c.atoms.invariant ∙ ap (λ them. c.args.into.now ++ them) (take_all c.atoms.atom-index c.args.atoms.now c.atoms-test.false)
