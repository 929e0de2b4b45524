use Rattle.std.proofs.Common.{[], ◌∷◌, ◌++◌, map, ap, ◌∙◌}
use Rattle.esto_constraint.proofs.EncodingLemmas.{made_all, made_more}
use Rattle.esto_term.specs.declared.term.Term.TheVariants.{Const}
use Rattle.esto_fill.proofs.apart.constant_rows.Goals as goal

pub rows-preserved : goal.rows-preserved
rows-preserved c =
    made_more (map Const) c.args.rows.now c.rows.row-index c.rows.terms.items (map (map Const) c.args.rows.now) c.rows.invariant
    c.row-item.result c.rows-test.true _
    (c.in_ok-push.ensures ∙ ap (λ it. c.rows.terms.items ++ it ∷ []) (c.in_ok-own.ensures ∙ ap (map Const) (c.items.ensures ∙ c.row-item.is)))

pub returns : goal.returns
returns c =
    made_all (map Const) c.args.rows.now c.rows.row-index c.rows.terms.items (map (map Const) c.args.rows.now) c.rows.invariant c.rows-test.false
