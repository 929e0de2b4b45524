use Rattle.std.proofs.Common.{subst}
use Rattle.esto_part_cases.specs.Bodies.{AreFit}
use Rattle.esto_part_cases.proofs.making.is_fit_atom.Goals as goal

pub returns-then-atom-relations : goal.returns-then-atom-relations
returns-then-atom-relations c = λ fit. (c.if-atom-relations.true, subst (λ terms. AreFit 100 terms) c.items.ensures (c.are_fit.ensures fit))
