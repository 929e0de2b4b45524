use Rattle.std.proofs.Common.{◌≡◌, ◌∙◌, arith, sym}
use Rattle.std.proofs.lemmas.List.{get_or_default}
use Rattle.esto_acyclic.proofs.graph.lift.Goals as goal

pub overflow_add-index : goal.overflow_add-index
overflow_add-index c =
    let same : c.index-4.result.now ≡ c.index-3.result.now =
    c.index-4.ensures ∙ get_or_default c.args.ranks.now.items c.args.from c.index-4.result.now c.index-3.result.now c.requires.from ∙ sym c.index-3.ensures in
    record { fits = omega (arith, c.if-index-len.false, c.len.type_inv) }
