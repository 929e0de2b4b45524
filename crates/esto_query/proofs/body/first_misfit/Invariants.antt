use Rattle.std.proofs.Common.{take}
use Rattle.esto_semantics.specs.WellFormed.{AreOver}
use Rattle.esto_query.specs.Schemas.{arities_of}
use Rattle.esto_query.proofs.body.first_misfit.Given as goal

abbrev pub invariant-loop-place : goal.invariant-loop-place
invariant-loop-place l = AreOver (arities_of l.schema) (take l.place l.atoms)
