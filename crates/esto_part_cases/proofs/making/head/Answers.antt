use Rattle.std.proofs.Common.{subst}
use Rattle.esto_part_cases.specs.Bodies.{AreFit}
use Rattle.esto_part_cases.proofs.making.head.Goals as goal

pub returns-clause-fit : goal.returns-clause-fit
returns-clause-fit c = subst (AreFit 100) c.items.ensures (c.are_fit.ensures c.if-not-are_fit.false)
