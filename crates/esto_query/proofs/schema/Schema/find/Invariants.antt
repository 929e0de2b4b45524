use Rattle.std.proofs.Common.{◌≢◌, take, Contains}
use Rattle.esto_query.specs.declared.schema.Relation.{Relation}
use Rattle.esto_query.proofs.schema.Schema.find.Given as goal

abbrev pub invariant-loop-number : goal.invariant-loop-number
invariant-loop-number l = (relation : Relation) → Contains (take l.number l.relation-items) relation → relation.name ≢ l.name
