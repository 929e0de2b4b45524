use Rattle.esto_query.specs.Schemas.{arities_of}
use Rattle.esto_constraint.proofs.MakingLemmas.{body_refused}
use Rattle.esto_constraint.proofs.make.equality_fault.Goals as goal

pub returns-in-Some : goal.returns-in-Some
returns-in-Some c = body_refused (arities_of c.args.schema.now) c.args.body.now c.args.left.now c.args.right.now c.in-Some.fault c.in-Some.ensures
