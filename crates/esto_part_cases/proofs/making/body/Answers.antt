use Rattle.std.proofs.Common.{subst}
use Rattle.esto_part_cases.specs.Bodies.{AreFitAtoms}
use Rattle.esto_part_cases.proofs.making.body.Goals as goal

pub returns-clause-fit : goal.returns-clause-fit
returns-clause-fit c = subst (AreFitAtoms c.args.relations 100) c.items.ensures (c.are_fit_atoms.ensures c.if-not-are_fit_atoms.false)
