use Rattle.std.proofs.Common.{[], ◌∷◌, subst}
use Rattle.esto_fill.specs.Placing.{LeastOpen}
use Rattle.esto_fill.proofs.TextLemmas.{open_all, open_next}
use Rattle.esto_fill.proofs.rows.least_open.Goals as goal

pub rows-preserved : goal.rows-preserved
rows-preserved c =
    open_next c.args.rows.now c.rows.row-index c.row-item.result c.rows.least c.open_place.result c.lesser-least.result c.rows-test.true c.row-item.is
    c.rows.invariant (subst (λ row. LeastOpen (row ∷ []) c.open_place.result) c.items.ensures c.open_place.ensures) c.lesser-least.ensures

pub returns : goal.returns
returns c = open_all c.args.rows.now c.rows.row-index c.rows.least c.rows-test.false c.rows.invariant
