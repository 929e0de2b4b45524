use Rattle.std.proofs.Common.{◌++◌, ◌∷◌, [], map, sym, ap, ◌∙◌}
use Rattle.std.proofs.lemmas.List.{map_more, take_all}
use Rattle.esto_coded.specs.Relations.{no_rows}
use Rattle.esto_coded.proofs.relations.no_relations.Goals as goal

pub arities-preserved : goal.arities-preserved
arities-preserved c =
    c.in-Ok.ensures.items ∙ (λ i. c.arities.invariant i ++ c.in_ok-relation.ensures i ∷ [])
    ∙ sym (map_more no_rows c.args.arities.now c.arities.arity-index 0 c.arities-test.true)

pub returns : goal.returns
returns c = c.arities.invariant ∙ ap (map no_rows) (take_all c.arities.arity-index c.args.arities.now c.arities-test.false)
