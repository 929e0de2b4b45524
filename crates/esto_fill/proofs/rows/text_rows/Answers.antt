use Rattle.std.proofs.Common.{[], ◌∷◌, ◌++◌, map, ap, ◌∙◌}
use Rattle.esto_constraint.proofs.EncodingLemmas.{made_all, made_more}
use Rattle.esto_fill.specs.Placing.{text_of}
use Rattle.esto_fill.proofs.rows.text_rows.Goals as goal

pub rows-preserved : goal.rows-preserved
rows-preserved c =
    made_more (map text_of) c.args.rows.now c.rows.row-index c.rows.texts (map (map text_of) c.args.rows.now) c.rows.invariant
    c.row-item.result c.rows-test.true _
    (c.in_ok-push.ensures.ok ∙ ap (λ it. c.rows.texts ++ it ∷ []) (c.in_ok-own.ensures ∙ ap (map text_of) (c.items.ensures ∙ c.row-item.is)))

pub returns : goal.returns
returns c =
    made_all (map text_of) c.args.rows.now c.rows.row-index c.rows.texts (map (map text_of) c.args.rows.now) c.rows.invariant c.rows-test.false
