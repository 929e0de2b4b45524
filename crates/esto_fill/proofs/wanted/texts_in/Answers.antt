use Rattle.std.proofs.Common.{subst}
use Rattle.esto_term.proofs.ListLemmas.{Contains-nil}
use Rattle.esto_fill.specs.Wanted.{Admits}
use Rattle.esto_fill.proofs.WantedLemmas.{bodies_all, bodies_more}
use Rattle.esto_fill.proofs.wanted.texts_in.Goals as goal

pub bodies-init : goal.bodies-init
bodies-init c body atom inside = absurd (Contains-nil body inside)

pub bodies-preserved : goal.bodies-preserved
bodies-preserved c =
    bodies_more c.args.relation c.args.bodies.now c.bodies.body-index c.body-item.result c.bodies.texts c.in_ok-texts.texts c.bodies-test.true
    c.body-item.is c.bodies.invariant
    (subst (λ those. Admits c.args.relation those c.bodies.texts c.in_ok-texts.texts) c.items.ensures c.in_ok-texts.ensures)

pub returns : goal.returns
returns c = bodies_all c.args.relation c.args.bodies.now c.bodies.body-index c.bodies.texts c.bodies-test.false c.bodies.invariant
