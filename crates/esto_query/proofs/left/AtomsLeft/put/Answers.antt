use Rattle.std.proofs.Common.{◌∙◌, ap, map}
use Rattle.std.specs.List.{insert}
use Rattle.esto_query.proofs.OrderLemmas.{map-insert}
use Rattle.esto_query.proofs.left.AtomsLeft.put.Goals as goal

pub returns : goal.returns
returns c =
    let grown = rw c.in-Ok.is at c.insert.ensures.items in
    ap (map (λ waiting. waiting.atom.now)) grown ∙ map-insert (λ waiting. waiting.atom.now) c.self.inside.atoms.items c.args.place c.args.waiting
    ∙ ap (λ atoms. insert atoms c.args.place c.args.waiting.atom.now) c.self.view_is
