use Rattle.std.proofs.Common.{◌∙◌, ap, map}
use Rattle.std.specs.List.{remove}
use Rattle.esto_query.proofs.OrderLemmas.{map-remove}
use Rattle.esto_query.proofs.left.AtomsLeft.take.Goals as goal

pub returns-clause-left : goal.returns-clause-left
returns-clause-left c =
    ap (map (λ waiting. waiting.atom.now)) c.remove.ensures.items ∙ map-remove (λ waiting. waiting.atom.now) c.self.inside.atoms.items c.args.place
    ∙ ap (λ atoms. remove atoms c.args.place) c.self.view_is
