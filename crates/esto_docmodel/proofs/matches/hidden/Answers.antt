use Rattle.std.proofs.Common.{length, ap, arith}
use Rattle.std.proofs.lemmas.List.{length_push}
use Rattle.esto_query.specs.declared.query.Name.TheVariants.{Hidden}
use Rattle.esto_docmodel.proofs.matches.hidden.Goals as goal

pub names-init : goal.names-init
names-init c = ap length c.new-names.ensures

pub names-preserved : goal.names-preserved
names-preserved c = omega (arith, c.names.invariant, ap length c.in_ok-push.ensures.ok, length_push c.names.names Hidden)

pub returns : goal.returns
returns c = omega (arith, c.names.invariant, c.names-test.false)
