use Rattle.std.proofs.Common.{refl}
use Rattle.esto_views.proofs.NamingLemmas.{has_found, has_next, has_none}
use Rattle.esto_views.proofs.naming.is_met.Goals as goal

pub numbers-init : goal.numbers-init
numbers-init c = refl

pub numbers-preserved : goal.numbers-preserved
numbers-preserved c =
    has_next c.args.met.now c.args.number c.numbers.other-index _ c.numbers.invariant c.numbers-test.true c.if-other-number.false

pub returns-then-other-number : goal.returns-then-other-number
returns-then-other-number c =
    has_found c.args.met.now c.args.number c.numbers.other-index _ c.numbers.invariant c.numbers-test.true c.if-other-number.true

pub returns : goal.returns
returns c = has_none c.args.met.now c.args.number c.numbers.other-index _ c.numbers.invariant c.numbers-test.false
