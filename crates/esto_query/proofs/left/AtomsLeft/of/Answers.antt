use Rattle.std.proofs.Common.{[], ◌∷◌, ◌++◌, map, sym, ap, ◌∙◌}
use Rattle.std.proofs.lemmas.List.{map_push, take_all}
use Rattle.esto_term.proofs.PlaceLemmas.{take-item}
use Rattle.esto_query.proofs.left.AtomsLeft.of.Goals as goal

pub atoms-init : goal.atoms-init
atoms-init c = ap (map (λ waiting. waiting.atom.now)) c.in-Ok.ensures.items

pub atoms-preserved : goal.atoms-preserved
atoms-preserved c =
    ap (map (λ waiting. waiting.atom.now)) c.in-Ok-push.ensures.items ∙ map_push (λ waiting. waiting.atom.now) c.atoms.atoms.items _
    ∙ ap (λ atoms. atoms ++ c.atom-item.result ∷ []) c.atoms.invariant
    ∙ sym (take-item c.args.body.now c.atoms.atom-index c.atom-item.result c.atoms-test.true c.atom-item.is)

pub returns : goal.returns
returns c = c.atoms.invariant ∙ take_all c.atoms.atom-index c.args.body.now c.atoms-test.false
