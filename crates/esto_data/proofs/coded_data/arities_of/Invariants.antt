use Rattle.std.proofs.Common.{◌≡◌, take}
use Rattle.esto_query.specs.Schemas.{arities_of}
use Rattle.esto_data.proofs.coded_data.arities_of.Given as goal

-- the arities are those of the relations so far
abbrev pub invariant-relations : goal.invariant-relations
invariant-relations l = l.arities ≡ take l.relation (arities_of l.schema)
