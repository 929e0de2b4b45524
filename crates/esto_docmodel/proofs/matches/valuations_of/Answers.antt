use Rattle.std.proofs.Common.{◌∷◌, [], ◌++◌, length, map, sym, ap, ◌∙◌}
use Rattle.std.proofs.lemmas.List.{take_all}
use Rattle.esto_semantics.proofs.SubstitutionLemmas.{map_more}
use Rattle.esto_docmodel.specs.Matching.{valuation_of}
use Rattle.esto_docmodel.proofs.matches.valuations_of.Goals as goal

pub rows-init : goal.rows-init
rows-init c = c.new-valuations.ensures

pub valuation_of-requires : goal.valuation_of-requires
valuation_of-requires c = ap length c.items.ensures ∙ c.requires c.row-item.result (c.rows.row-index, c.rows-test.true, sym c.row-item.is)

pub rows-preserved : goal.rows-preserved
rows-preserved c =
    map_more (valuation_of c.args.variables.now) c.args.rows.now c.rows.row-index c.row-item.result c.rows.valuations c.push.new.self c.rows-test.true
    c.row-item.is
    (c.in_ok-push.ensures.ok ∙ ap (λ it. c.rows.valuations ++ it ∷ [])
    (c.in_ok-valuation.ensures ∙ ap (valuation_of c.args.variables.now) c.items.ensures)) c.rows.invariant

pub returns : goal.returns
returns c = c.rows.invariant ∙ ap (map (valuation_of c.args.variables.now)) (take_all c.rows.row-index c.args.rows.now c.rows-test.false)
