use Rattle.std.proofs.Common.{[], ◌∷◌, ◌++◌, map, ap, ◌∙◌}
use Rattle.esto_constraint.proofs.EncodingLemmas.{made_all, made_more}
use Rattle.esto_fill.specs.Placing.{text_of}
use Rattle.esto_fill.proofs.rows.text_row.Goals as goal

pub terms-preserved : goal.terms-preserved
terms-preserved c =
    made_more text_of c.args.terms.now c.terms.term-index c.terms.row (map text_of c.args.terms.now) c.terms.invariant
    c.term-item.result c.terms-test.true _ (c.in_ok-push.ensures.ok ∙ ap (λ it. c.terms.row ++ it ∷ []) (c.in_ok-text.ensures ∙ ap text_of c.term-item.is))

pub returns : goal.returns
returns c = made_all text_of c.args.terms.now c.terms.term-index c.terms.row (map text_of c.args.terms.now) c.terms.invariant c.terms-test.false
