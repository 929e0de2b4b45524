use Rattle.std.proofs.Common.{rules, ◌≡◌, ◌∙◌, ◌<◌, ◌^◌, arith, sym}
use Rattle.std.proofs.lemmas.List.{get_or_default}
use Rattle.esto_acyclic.proofs.graph.lower.Goals as goal

pub overflow_add-index : goal.overflow_add-index
overflow_add-index c =
    let same : c.index-4.result.now ≡ c.index-2.result.now =
    c.index-4.ensures ∙ get_or_default c.args.distances.now.items c.args.to c.index-4.result.now c.index-2.result.now c.requires.to ∙ sym c.index-2.ensures in
    let fits : c.index-3.result.now < 2 ^ 64 = search rules in
    record { fits = omega (arith, same, fits, c.if-index.false) }
