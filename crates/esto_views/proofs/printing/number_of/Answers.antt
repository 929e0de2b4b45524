use Rattle.std.proofs.Common.{refl}
use Rattle.esto_views.proofs.NamingLemmas.{number_found, number_next, number_none}
use Rattle.esto_views.proofs.printing.number_of.Goals as goal

pub variables-init : goal.variables-init
variables-init c = refl

pub variables-preserved : goal.variables-preserved
variables-preserved c =
    number_next c.args.nameless.now c.args.variable c.variables.place _ c.variables.invariant c.variables-test.true c.if-other-variable.false

pub returns-then-other-variable : goal.returns-then-other-variable
returns-then-other-variable c =
    number_found c.args.nameless.now c.args.variable c.variables.place _ c.variables.invariant c.variables-test.true c.if-other-variable.true

pub returns : goal.returns
returns c = number_none c.args.nameless.now c.args.variable c.variables.place _ c.variables.invariant c.variables-test.false
