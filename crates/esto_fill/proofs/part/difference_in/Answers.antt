use Rattle.std.proofs.lemmas.Result.{IfOk-weaker}
use Rattle.esto_fill.proofs.PartLemmas.{first_by_part, met_in_part}
use Rattle.esto_fill.proofs.part.difference_in.Goals as goal

pub returns-in-None : goal.returns-in-None
returns-in-None c =
    let met = rw c.in-None.is at c.in_ok-active.ensures in
    met_in_part c.args.catalogue.now.rules c.args.number c.item.result.now c.args.part.now c.item.ensures met

pub returns-in-Some : goal.returns-in-Some
returns-in-Some c =
    let least = rw c.in-Some.is at c.in_ok-active.ensures in
    IfOk-weaker c.difference_of.result _ _
    (λ outcome told.
    first_by_part c.args.catalogue.now c.args.number c.in-Some.found.valuation c.item.result.now c.args.part.now c.in-Some.found.places c.item.ensures
    least outcome told)
    c.difference_of.ensures
