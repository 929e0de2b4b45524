use Rattle.std.proofs.Common.{[], ◌∷◌, ◌++◌, map, ap, ◌∙◌}
use Rattle.esto_constraint.proofs.EncodingLemmas.{made_all, made_more}
use Rattle.esto_semantics.specs.Valuations.{map_of}
use Rattle.esto_fill.specs.Records.{cell_of}
use Rattle.esto_fill.proofs.record.cells_of.Goals as goal

pub variables-preserved : goal.variables-preserved
variables-preserved c =
    made_more (λ variable. cell_of (map_of c.args.valuation.now variable)) c.args.variables.now c.variables.variable-index c.variables.cells
    (map (λ variable. cell_of (map_of c.args.valuation.now variable)) c.args.variables.now) c.variables.invariant
    c.variable-item.result c.variables-test.true _
    (c.in_ok-push.ensures.ok ∙ ap (λ it. c.variables.cells ++ it ∷ [])
    (c.in_ok-cell.ensures ∙ ap cell_of (c.value_of.ensures ∙ ap (map_of c.args.valuation.now) c.variable-item.is)))

pub returns : goal.returns
returns c =
    made_all (λ variable. cell_of (map_of c.args.valuation.now variable)) c.args.variables.now c.variables.variable-index c.variables.cells
    (map (λ variable. cell_of (map_of c.args.valuation.now variable)) c.args.variables.now) c.variables.invariant c.variables-test.false
